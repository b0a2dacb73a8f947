-- A choice of two forms, which a test of the data tells apart: a value has the one or the other. (own)
use Rattle.std.proofs.Common.{◌≡◌, ◌⊎◌, Bool, true, false, List}
use Rattle.basic_toml_value.specs.Data.{Data}
use Rattle.basic_toml_tree.specs.Nodes.{node_data}
use Rattle.basic_toml_tree.specs.declared.node.Node.{Node}
use Rattle.basic_toml_error.specs.Fault.{Fault}
use Rattle.basic_toml_emit.specs.Items.{Item}
use Rattle.basic_toml_returns.specs.Returned.{ReadBack, Returned}
use Rattle.basic_toml_returns.specs.RoundTrips.{Own}

-- a value of the one type, or of the other
pub data Form (One Other : Type 0) : Type 0 where
  one : One → Form One Other
  other : Other → Form One Other

-- The types of the two, which of them a value has, and a test of data: it holds of whatever the one means, and fails of
-- whatever the other does.
pub record Forms (A : Type 0) : Type 1 where
  pub One : Type 0
  pub Other : Type 0
  pub as_one : Own One
  pub as_other : Own Other
  pub test : Data → Bool
  pub form : A → Form One Other
  pub one_holds : (x : One) → test (as_one.read_back.meant x) ≡ true
  pub other_fails : (y : Other) → test (as_other.read_back.meant y) ≡ false

abbrev pub by_test : {A One Other : Type 0} → (test : Data → Bool) → (as_one : Own One) → (as_other : Own Other)
    → (A → Form One Other) → ((x : One) → test (as_one.read_back.meant x) ≡ true)
    → ((y : Other) → test (as_other.read_back.meant y) ≡ false) → Forms A
by_test {A} {One} {Other} test as_one as_other form one_holds other_fails = record {
  One = One;
  Other = Other;
  as_one = as_one;
  as_other = as_other;
  test = test;
  form = form;
  one_holds = one_holds;
  other_fails = other_fails;
}

module _ {A : Type 0} (forms : Forms A) where
  -- ---- either form

  abbrev reads_of : Data → Form forms.One forms.Other → Type 0
  reads_of d (one x) = (forms.test d ≡ true) × forms.as_one.read_back.reads d x
  reads_of d (other y) = (forms.test d ≡ false) × forms.as_other.read_back.reads d y

  abbrev calls_of : Form forms.One forms.Other → List Item
  calls_of (one x) = forms.as_one.read_back.calls x
  calls_of (other y) = forms.as_other.read_back.calls y

  abbrev holds_of : Form forms.One forms.Other → Type 0
  holds_of (one x) = forms.as_one.read_back.holds x
  holds_of (other y) = forms.as_other.read_back.holds y

  abbrev meaning_of : Form forms.One forms.Other → Data
  meaning_of (one x) = forms.as_one.read_back.meant x
  meaning_of (other y) = forms.as_other.read_back.meant y

  -- ---- what the type reads and writes

  -- the one from data of which the test holds, the other from all else
  abbrev pub form_reads : Data → A → Type 0
  form_reads d x = reads_of d (forms.form x)

  abbrev pub form_faults : Node → Fault → Type 0
  form_faults node fault =
      ((forms.test (node_data node) ≡ true) × forms.as_one.faults node fault)
      ⊎ ((forms.test (node_data node) ≡ false) × forms.as_other.faults node fault)

  abbrev pub form_calls : A → List Item
  form_calls x = calls_of (forms.form x)

  abbrev pub form_holds : A → Type 0
  form_holds x = holds_of (forms.form x)

  abbrev pub form_meant : A → Data
  form_meant x = meaning_of (forms.form x)

  -- ---- it returns

  not_both : {b : Bool} → b ≡ true → b ≡ false → ⊥
  not_both holds fails = cc

  one_once : (x : forms.One)
      → Returned forms.as_one.read_back.calls forms.as_one.read_back.reads forms.as_one.read_back.meant x
      → (form : Form forms.One forms.Other) → reads_of (forms.as_one.read_back.meant x) form
      → meaning_of form ≡ forms.as_one.read_back.meant x
  one_once x is (one y) read = is.once y read.1
  one_once x is (other y) read = absurd (not_both (forms.one_holds x) read.0)

  other_once : (x : forms.Other)
      → Returned forms.as_other.read_back.calls forms.as_other.read_back.reads forms.as_other.read_back.meant x
      → (form : Form forms.One forms.Other) → reads_of (forms.as_other.read_back.meant x) form
      → meaning_of form ≡ forms.as_other.read_back.meant x
  other_once x is (one y) read = absurd (not_both read.0 (forms.other_fails x))
  other_once x is (other y) read = is.once y read.1

  either_returned : (form : Form forms.One forms.Other) → holds_of form → Returned calls_of reads_of meaning_of form
  either_returned (one x) held = let is = forms.as_one.read_back.returns x held in
      record { means = is.means; read = (forms.one_holds x, is.read); once = one_once x is }
  either_returned (other x) held = let is = forms.as_other.read_back.returns x held in
      record { means = is.means; read = (forms.other_fails x, is.read); once = other_once x is }

  pub form_returned : (x : A) → form_holds x → Returned form_calls form_reads form_meant x
  form_returned x held = let is = either_returned (forms.form x) held in
      record { means = is.means; read = is.read; once = λ y read. is.once (forms.form y) read }

  abbrev pub form_back : ReadBack A
  form_back = record {
    calls = form_calls;
    holds = form_holds;
    reads = form_reads;
    meant = form_meant;
    returns = form_returned;
  }
