-- Numbers, truth values and strings return.
use Rattle.std.proofs.Common.{◌≡◌, ◌<◌, ◌^◌, ℕ, ℤ, pos, Bool, true, List, refl, sym, Some, String, string_bytes, Global}
use Rattle.std.specs.Prelude.{⊤}
use Rattle.basic_toml_value.specs.Data.{boolean, float, integer, string}
use Rattle.basic_toml_layout.specs.Written as w
use Rattle.basic_toml_write.specs.Impls.{is_within, scalar_calls}
use Rattle.basic_toml_write.specs.Spelling.{one_scalar, root}
use Rattle.basic_toml_typed.specs.TypeReads.{bool_reads, float_reads, signed_reads, string_reads, unsigned_reads}
use Rattle.basic_toml_returns.specs.Means.{Means}
use Rattle.basic_toml_returns.specs.Returned.{ReadBack}

pub integer_means : (z : ℤ) → Means (scalar_calls (w.integer z)) (Some (integer z))
integer_means z = record { value = w.scalar (w.integer z); spelled = root one_scalar; whole = refl }

pub boolean_means : (b : Bool) → Means (scalar_calls (w.boolean b)) (Some (boolean b))
boolean_means b = record { value = w.scalar (w.boolean b); spelled = root one_scalar; whole = refl }

pub float_means : (text : List ℕ) → Means (scalar_calls (w.float text)) (Some (float text))
float_means text = record { value = w.scalar (w.float text); spelled = root one_scalar; whole = refl }

pub text_means : (text : List ℕ) → Means (scalar_calls (w.text text)) (Some (string text))
text_means text = record { value = w.scalar (w.text text); spelled = root one_scalar; whole = refl }

-- the name of a unit variant
pub other_text_means : (text : List ℕ) → Means (scalar_calls (w.other_text text)) (Some (string text))
other_text_means text = record { value = w.scalar (w.other_text text); spelled = root one_scalar; whole = refl }

-- i8 to i64, where `half` is one bit less
abbrev pub signed_back : ℕ → ReadBack ℤ
signed_back half = record {
  calls = λ z. scalar_calls (w.integer z);
  holds = λ z. is_within half z ≡ true;
  reads = signed_reads half;
  meant = λ z. integer z;
  returns = λ z held. record { means = integer_means z; read = (refl, held); once = λ y read. sym read.0 };
}

-- u8 to u64
abbrev pub unsigned_back : ℕ → ReadBack ℕ
unsigned_back bits = record {
  calls = λ n. scalar_calls (w.integer (pos n));
  holds = λ n. n < 2 ^ bits;
  reads = unsigned_reads bits;
  meant = λ n. integer (pos n);
  returns = λ n held. record { means = integer_means (pos n); read = (refl, held); once = λ y read. sym read.0 };
}

abbrev pub bool_back : ReadBack Bool
bool_back = record {
  calls = λ b. scalar_calls (w.boolean b);
  holds = λ b. ⊤;
  reads = bool_reads;
  meant = λ b. boolean b;
  returns = λ b held. record { means = boolean_means b; read = refl; once = λ y read. sym read };
}

-- a float by its canonical text
abbrev pub float_back : ReadBack (List ℕ)
float_back = record {
  calls = λ text. scalar_calls (w.float text);
  holds = λ text. ⊤;
  reads = float_reads;
  meant = λ text. float text;
  returns = λ text held. record { means = float_means text; read = refl; once = λ y read. sym read };
}

abbrev pub string_back : ReadBack (String Global)
string_back = record {
  calls = λ s. scalar_calls (w.text (string_bytes s));
  holds = λ s. ⊤;
  reads = string_reads;
  meant = λ s. string (string_bytes s);
  returns = λ s held. record { means = text_means (string_bytes s); read = refl; once = λ y read. sym read };
}
