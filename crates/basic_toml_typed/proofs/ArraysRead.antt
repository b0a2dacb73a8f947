-- Reading the elements of an array, one after another.
use Rattle.std.proofs.Common.{◌≡◌, inl, inr, ℕ, zero, suc, false, List, [], ◌∷◌, ◌++◌, Vec, Global, IsTrue}
use Rattle.std.proofs.Common.{refl, sym, subst, ap, ◌∙◌, take, drop, Some, codes}
use Rattle.std.specs.Prelude.{slice_get}
use Rattle.std.proofs.lemmas.List.{append-nil, append_assoc, append_cancel_right, take-append-drop}
use Rattle.basic_toml_value.specs.Data.{Data, integer, float, boolean, string, array, table}
use Rattle.basic_toml_tree.specs.declared.entries.Elements.{Elements}
use Rattle.basic_toml_tree.specs.declared.node.Node.{Node}
use Rattle.basic_toml_tree.specs.Nodes.{node_data, is_array, elements_in, elements_left}
use Rattle.basic_toml_tree.specs.Stands.{AtNumber, BeginsIn, GivesElement}
use Rattle.basic_toml_error.specs.Fault.{Fault}
use Rattle.basic_toml_error.specs.NodeFaults.{IsFault}
use Rattle.basic_toml_typed.specs.TypeAnswers.{OnlyMemory, OrMemory}
use Rattle.basic_toml_typed.specs.TypeFaults.{array_faults, wrong_type}
use Rattle.basic_toml_typed.specs.TypeReads.{are_read, are_taken, array_reads, array_takes}
use Rattle.basic_toml_typed.proofs.FieldsFail.{made_so}

-- ---- what comes first of those that are left

pub at_number : {X : Type 0} (n : ℕ) (all rest : List X) (x : X) → drop n all ≡ x ∷ rest → slice_get all n ≡ Some x
at_number zero [] rest x next = absurd (cc)
at_number zero (y ∷ ys) rest x next = cc
at_number (suc n) [] rest x next = absurd (cc)
at_number (suc n) (y ∷ ys) rest x next = at_number n ys rest x next

pub one_taken : {X : Type 0} (n m : ℕ) (all : List X) (x : X) → drop n all ≡ x ∷ drop m all
    → take m all ≡ take n all ++ x ∷ []
one_taken n m all x next =
    append_cancel_right (take m all) (take n all ++ x ∷ []) (drop m all)
    (take-append-drop m all ∙ sym (take-append-drop n all) ∙ ap (λ l. take n all ++ l) next
    ∙ sym (append_assoc (take n all) (x ∷ []) (drop m all)))

pub all_taken : {X : Type 0} (n : ℕ) (all : List X) → drop n all ≡ [] → take n all ≡ all
all_taken n all none =
    sym (append-nil (take n all)) ∙ ap (λ l. take n all ++ l) (sym none) ∙ take-append-drop n all

-- ---- values of data

module _ {A : Type 0} (reads : Data → A → Type 0) where
  pub read_more : (ds : List Data) (xs : List A) (d : Data) (x : A) → are_read reads ds xs → reads d x
      → are_read reads (ds ++ d ∷ []) (xs ++ x ∷ [])
  read_more [] [] d x are is = (is, tt)
  read_more [] (y ∷ ys) d x are is = absurd are
  read_more (e ∷ es) [] d x are is = absurd are
  read_more (e ∷ es) (y ∷ ys) d x are is = (are.0, read_more es ys d x are.1 is)

  read_at : (n : ℕ) (all rest : List Data) (whole : List A) (d : Data) → drop n all ≡ d ∷ rest
      → are_read reads all whole → (x : A) × reads d x
  read_at zero [] rest whole d next are = absurd (cc)
  read_at zero (e ∷ es) rest [] d next are = absurd are
  read_at zero (e ∷ es) rest (y ∷ ys) d next are =
      let same : e ≡ d = cc in (y, subst (λ (here : Data). reads here y) same are.0)
  read_at (suc n) [] rest whole d next are = absurd (cc)
  read_at (suc n) (e ∷ es) rest [] d next are = absurd are
  read_at (suc n) (e ∷ es) rest (y ∷ ys) d next are = read_at n es rest ys d next are.1

pub taken_at : (takes : Data → Type 0) (n : ℕ) (all rest : List Data) (d : Data) → drop n all ≡ d ∷ rest
    → are_taken takes all → takes d
taken_at takes zero [] rest d next are = absurd (cc)
taken_at takes zero (e ∷ es) rest d next are = let same : e ≡ d = cc in subst takes same are.0
taken_at takes (suc n) [] rest d next are = absurd (cc)
taken_at takes (suc n) (e ∷ es) rest d next are = taken_at takes n es rest d next are.1

-- ---- the elements of an array

-- these elements of the array are left, and these values were read from those before them
pub record IsReadSoFar {A : Type 0} (reads : Data → A → Type 0) (node : Node) (left : Elements) (values : List A)
    : Type 0 where
  pub of : left.array ≡ node
  pub read : are_read reads (take left.at (elements_in (node_data node))) values

module _ {A : Type 0} (takes : Data → Type 0) (reads : Data → A → Type 0) (node : Node) where
  pub none_read : (left : Elements) → BeginsIn node left → IsReadSoFar reads node left []
  none_read left begins = record {
    of = begins.0;
    read = subst (λ (n : ℕ). are_read reads (take n (elements_in (node_data node))) []) (sym begins.1) tt;
  }

  -- the next element comes first of those that are left
  next_of : (left rest : Elements) (values : List A) (element : Node) → IsReadSoFar reads node left values
      → GivesElement left (Some element) rest
      → drop left.at (elements_in (node_data node)) ≡ node_data element ∷ drop rest.at (elements_in (node_data node))
  next_of left rest values element so_far gives =
      subst (λ (from : Node). drop left.at (elements_in (node_data node))
      ≡ node_data element ∷ drop rest.at (elements_in (node_data from))) (gives.2 ∙ so_far.of)
      (subst (λ (from : Node). drop left.at (elements_in (node_data from)) ≡ node_data element ∷ elements_left rest)
      so_far.of gives.0)

  pub one_read : (left rest : Elements) (values : List A) (element : Node) (x : A) → IsReadSoFar reads node left values
      → GivesElement left (Some element) rest → reads (node_data element) x
      → IsReadSoFar reads node rest (values ++ x ∷ [])
  one_read left rest values element x so_far gives read =
      let next = next_of left rest values element so_far gives in
      record {
        of = gives.2 ∙ so_far.of;
        read = rw (one_taken left.at rest.at (elements_in (node_data node)) (node_data element) next)
            (read_more reads (take left.at (elements_in (node_data node))) values (node_data element) x so_far.read read);
      }

  array_read : (d : Data) (values : Vec A Global) → IsTrue (is_array d) → are_read reads (elements_in d) values.items
      → array_reads reads d values
  unfolding array_reads
  array_read (integer _) values is read = absurd (cc)
  array_read (float _) values is read = absurd (cc)
  array_read (boolean _) values is read = absurd (cc)
  array_read (string _) values is read = absurd (cc)
  array_read (table _) values is read = absurd (cc)
  array_read (array _) values is read = read

  pub all_read : (left : Elements) (values : Vec A Global) → IsTrue (is_array (node_data node))
      → IsReadSoFar reads node left values.items → elements_left left ≡ [] → array_reads reads (node_data node) values
  all_read left values is so_far none =
      let nothing : drop left.at (elements_in (node_data node)) ≡ [] =
      subst (λ (from : Node). drop left.at (elements_in (node_data from)) ≡ []) so_far.of none in
      array_read (node_data node) values is
      (subst (λ (ds : List Data). are_read reads ds values.items)
      (all_taken left.at (elements_in (node_data node)) nothing) so_far.read)

  -- an element that is not read
  refused_at : (d : Data) (n : ℕ) (element : Data) (rest : List Data) (fault : Fault)
      → drop n (elements_in d) ≡ element ∷ rest → OnlyMemory (takes element) (reads element) fault
      → OnlyMemory (array_takes takes d) (array_reads {A = A} reads d) fault
  unfolding array_reads array_takes
  refused_at (integer _) n element rest fault next refused = record { taken = λ h. absurd h; held = λ whole h. absurd h }
  refused_at (float _) n element rest fault next refused = record { taken = λ h. absurd h; held = λ whole h. absurd h }
  refused_at (boolean _) n element rest fault next refused = record { taken = λ h. absurd h; held = λ whole h. absurd h }
  refused_at (string _) n element rest fault next refused = record { taken = λ h. absurd h; held = λ whole h. absurd h }
  refused_at (table _) n element rest fault next refused = record { taken = λ h. absurd h; held = λ whole h. absurd h }
  refused_at (array items) n element rest fault next refused = record {
    taken = λ h. refused.taken (taken_at takes n (elements_in (array items)) rest element next h);
    held = λ whole h.
        let (x, is) = read_at reads n (elements_in (array items)) rest whole.items element next h in refused.held x is;
  }

  pub element_refused : (left rest : Elements) (values : List A) (element : Node) (fault : Fault)
      → IsReadSoFar reads node left values → GivesElement left (Some element) rest
      → OnlyMemory (takes (node_data element)) (reads (node_data element)) fault
      → OnlyMemory (array_takes takes (node_data node)) (array_reads {A = A} reads (node_data node)) fault
  element_refused left rest values element fault so_far gives refused =
      refused_at (node_data node) left.at (node_data element) (drop rest.at (elements_in (node_data node))) fault
      (next_of left rest values element so_far gives) refused

  -- what is no array
  no_array : (d : Data) (fault : Fault) → is_array d ≡ false
      → OnlyMemory (array_takes takes d) (array_reads {A = A} reads d) fault
  unfolding array_reads array_takes
  no_array (integer _) fault other = record { taken = λ h. absurd h; held = λ whole h. absurd h }
  no_array (float _) fault other = record { taken = λ h. absurd h; held = λ whole h. absurd h }
  no_array (boolean _) fault other = record { taken = λ h. absurd h; held = λ whole h. absurd h }
  no_array (string _) fault other = record { taken = λ h. absurd h; held = λ whole h. absurd h }
  no_array (table _) fault other = record { taken = λ h. absurd h; held = λ whole h. absurd h }
  no_array (array _) fault other = absurd (cc)

  pub array_refused : (fault : Fault) → is_array (node_data node) ≡ false
      → OnlyMemory (array_takes takes (node_data node)) (array_reads {A = A} reads (node_data node)) fault
  array_refused fault other = no_array (node_data node) fault other

-- ---- which error

module _ {A : Type 0} (faults : Node → Fault → Type 0) (reads : Data → A → Type 0) (node : Node) (fault : Fault) where
  pub array_fails : is_array (node_data node) ≡ false → IsFault fault (wrong_type (codes "a sequence") node)
      → OrMemory (array_faults faults reads node) fault
  unfolding array_faults
  array_fails other made = made_so (array_faults faults reads node) fault _ made (inl (other, refl))

  pub element_fails : (left rest : Elements) (values : List A) (element : Node) → IsReadSoFar reads node left values
      → GivesElement left (Some element) rest → OrMemory (faults element) fault
      → OrMemory (array_faults faults reads node) fault
  unfolding array_faults
  element_fails left rest values element so_far gives (inl memory) = inl memory
  element_fails left rest values element so_far gives (inr own) =
      let next = next_of (λ _. ⊥) reads node left rest values element so_far gives in
      inr (inr (
        left.at,
        element,
        record {
          holds = at_number left.at (elements_in (node_data node)) (drop rest.at (elements_in (node_data node)))
              (node_data element) next;
          stands = subst (λ (from : Node). AtNumber from left.at element) so_far.of gives.1.0;
        },
        (values, so_far.read),
        own,
      ))

pub ruleset arrays_read = (none_read, array_refused, array_fails)
