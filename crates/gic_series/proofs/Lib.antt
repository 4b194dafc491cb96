pub mod SeriesDetermined
