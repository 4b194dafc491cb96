pub mod RightRows
pub mod SettingDetermined
pub mod RowsDetermined
