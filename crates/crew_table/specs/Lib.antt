pub mod Parents
