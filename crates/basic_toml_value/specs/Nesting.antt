-- How deep arrays and tables nest at most (own): a document, and a written value, has a depth of at most this.
use Rattle.std.specs.Prelude.{ℕ}

abbrev pub nesting_limit : ℕ
nesting_limit = 128
