pub mod BoundEarthed
