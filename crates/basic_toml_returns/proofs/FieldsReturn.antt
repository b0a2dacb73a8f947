-- A field is read where its table has it, and nothing else is that means something else.
use Rattle.std.proofs.Common.{◌≡◌, ℕ, refl, sym, subst, ap, ◌∙◌, Option, Some, None, option_map}
use Rattle.std.specs.Prelude.{MatchOption, ⊤}
use Rattle.basic_toml_value.specs.Data.{Data}
use Rattle.basic_toml_layout.specs.Written as w
use Rattle.basic_toml_write.specs.Impls.{option_calls}
use Rattle.basic_toml_write.specs.Spelling.{root, root_some, none}
use Rattle.basic_toml_typed.specs.Records.{default_reads}
use Rattle.basic_toml_typed.specs.TypeReads.{field_reads, optional_reads, some_reads, maybe_reads}
use Rattle.basic_toml_returns.specs.Means.{Means}
use Rattle.basic_toml_returns.specs.Returned.{ReadBack, Returned}
use Rattle.basic_toml_returns.specs.Rows.{ReturnsAt}

module _ {A : Type 0} (back : ReadBack A) (key : ℕ) where
  abbrev reads : Data → A → Type 0
  reads = back.reads

  abbrev in_some : A → Option Data
  in_some x = Some (back.meant x)

  abbrev Returns : A → Type 0
  Returns x = Returned back.calls back.reads back.meant x

  pub field_returns : (x : A) → Returns x → ReturnsAt key (field_reads reads key) in_some x
  unfolding field_reads
  field_returns x is = record {
    read = λ d table has. subst (λ (o : Option Data). some_reads reads o x) (sym has) is.read;
    once = λ d y there has.
        ap (λ m. Some m) (is.once y (subst (λ (o : Option Data). some_reads reads o y) has there));
  }

  -- what stands there is read, and no default is taken
  no_default : (IsDefault : A → Type 0) (x y : A) (found : Option A) → Returns x
      → maybe_reads reads (Some (back.meant x)) found → MatchOption found (IsDefault y) (λ z. y ≡ z)
      → in_some y ≡ in_some x
  no_default IsDefault x y None is read same = absurd read
  no_default IsDefault x y (Some z) is read same = ap in_some same ∙ ap (λ m. Some m) (is.once z read)

  pub default_returns : (IsDefault : A → Type 0) (x : A) → Returns x
      → ReturnsAt key (default_reads reads IsDefault key) in_some x
  unfolding default_reads optional_reads
  default_returns IsDefault x is = record {
    read = λ d table has.
        (Some x, (table, subst (λ (o : Option Data). maybe_reads reads o (Some x)) (sym has) is.read), refl);
    once = λ d y there has.
        no_default IsDefault x y there.0 is (subst (λ (o : Option Data). maybe_reads reads o there.0) has there.1.1)
        there.2;
  }

  -- an option

  nothing_read : (y : Option A) → maybe_reads reads None y → option_map back.meant y ≡ None
  nothing_read None read = refl
  nothing_read (Some y) read = absurd read

  one_read : (x : A) → Returns x → (y : Option A) → maybe_reads reads (Some (back.meant x)) y
      → option_map back.meant y ≡ in_some x
  one_read x is None read = absurd read
  one_read x is (Some y) read = ap (λ m. Some m) (is.once y read)

  pub option_returns : (x : Option A) → MatchOption x ⊤ back.holds
      → ReturnsAt key (optional_reads reads key) (option_map back.meant) x
  unfolding optional_reads
  option_returns None held = record {
    read = λ d table has. (table, subst (λ (o : Option Data). maybe_reads reads o None) (sym has) tt);
    once = λ d y there has. nothing_read y (subst (λ (o : Option Data). maybe_reads reads o y) has there.1);
  }
  option_returns (Some x) held = let is = back.returns x held in record {
    read = λ d table has. (table, subst (λ (o : Option Data). maybe_reads reads o (Some x)) (sym has) is.read);
    once = λ d y there has. one_read x is y (subst (λ (o : Option Data). maybe_reads reads o y) has there.1);
  }

  pub option_means : (x : Option A) → MatchOption x ⊤ back.holds
      → Means (option_calls back.calls x) (option_map back.meant x)
  option_means None held = record { value = w.absent; spelled = root none; whole = refl }
  option_means (Some x) held = let is = (back.returns x held).means in
      record { value = is.value; spelled = root_some is.spelled; whole = is.whole }
