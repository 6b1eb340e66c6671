pub mod SchemaLaws
pub mod StateLaws
