-- The words of the contracts of `tokens`.
pub use Rattle.basic_toml_tokens.specs.Tokenizer
pub use Rattle.basic_toml_tokens.specs.Copies
pub use Rattle.basic_toml_tokens.specs.Descriptions
pub use Rattle.basic_toml_tokens.specs.Faults
pub use Rattle.basic_toml_tokens.specs.Reading
pub use Rattle.basic_toml_tokens.specs.Strings
pub use Rattle.basic_toml_tokens.specs.Text
pub use Rattle.basic_toml_tokens.specs.TokenAt
pub use Rattle.basic_toml_tokens.specs.Token
