use Rattle.std.proofs.lemmas.Str.{IsUtf8-had}
use Rattle.basic_toml_numbers.proofs.float.text.Short.as_str.Goals as goal

pub from_utf8_unchecked-requires : goal.from_utf8_unchecked-requires
from_utf8_unchecked-requires c = IsUtf8-had _ c.args.self.now.text
