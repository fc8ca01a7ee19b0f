pub mod JobFile
