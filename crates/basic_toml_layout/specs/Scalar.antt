-- What the scalar of a call is as a written value.
use Rattle.std.specs.Prelude.{pos}
use Rattle.basic_toml_layout.specs.Written as w
use Rattle.basic_toml_layout.specs.declared.scalar.Scalar.{Scalar}
use Rattle.basic_toml_layout.specs.declared.scalar.Scalar.TheVariants.{Signed, Unsigned, Boolean, Float, Text}
use Rattle.basic_toml_layout.specs.declared.scalar.Scalar.TheVariants.{OtherText, Bytes, Refused}

abbrev pub scalar_of : Scalar → w.Scalar
scalar_of (Signed z) = w.integer z
scalar_of (Unsigned n) = w.integer (pos n)
scalar_of (Boolean b) = w.boolean b
scalar_of (Float t) = w.float t.now
scalar_of (Text t) = w.text t.now
scalar_of (OtherText t) = w.other_text t.now
scalar_of (Bytes bs) = w.bytes bs.now
scalar_of Refused = w.refused
