use Rattle.basic_toml_read.proofs.Common.{refl, ap, sym, ◌∙◌, arith, rules, length, ◌≡◌, ◌≤◌, ◌+◌, text_at, between}
use Rattle.basic_toml_read.proofs.Common.{Raw, the_lemmas, word_value}
use Rattle.basic_toml_read.proofs.scalar.word_at.Goals as goal
use Rattle.std.specs.Option.{option_map}
use mir.Syntax.{w64}
use mir.Val.{SFits}
use Rattle.std.proofs.lemmas.Int.{to_z-of_z}
use Rattle.basic_toml_read.specs.Word.{raw_of}
use Rattle.basic_toml_read.proofs.WordIsRead.{digits_here, word_missing, word_run, word_stands}
use Rattle.basic_toml_explain.proofs.TakenTokenStands.{run_over}
use Rattle.basic_toml_read.proofs.scalar.word_at.Goals.{in-Some+else-ends_word, in-None}

pub returns-then-at-after-clause-read : goal.returns-then-at-after-clause-read
returns-then-at-after-clause-read c =
    let text = text_at c.args.text.now c.args.at in
    let same = ap (text_at c.args.text.now) c.if-at-after.true ∙ c.end_of_word-after.ensures.left in
    let none = run_over text (sym same) in
    ((word_missing text (ap word_value none), none), λ _. refl)

pub returns-in_default-clause-read : goal.returns-in_default-clause-read
returns-in_default-clause-read c =
    let word = word_run c.args.text.now c.args.at c.end_of_word-after.result c.utf8.text c.requires
    c.end_of_word-after.ensures c.if-at-after.false in
    let told = sym (ap (option_map raw_of) c.in_default.is) ∙ c.in_ok-value.ensures in
    let same = ap word_value (sym (c.range-word.ensures.value ∙ word.0)) in
    ((word_missing (text_at c.args.text.now c.args.at) (same ∙ sym told), word.1), λ _. refl)

pub returns-clause-read : goal.returns-clause-read
returns-clause-read c =
    let l = c.end_of_word-after.ensures in
    let word = word_run c.args.text.now c.args.at c.end_of_word-after.result c.utf8.text c.requires l
    c.if-at-after.false in
    let told = sym (ap (option_map raw_of) c.in-Some-2.is) ∙ c.in_ok-value.ensures in
    let is = word_stands c.args.text.now c.args.at c.end_of_word-after.result c.range-word.result.now
    (raw_of c.in-Some-2.value) (c.range-word.ensures.value ∙ word.0) word.1 l.left told in
    search rules

pub overflow_add-end : goal.overflow_add-end
overflow_add-end c =
    let within : c.args.at + c.in-Some.count ≤ length c.args.text.now =
    (digits_here c.args.at c.as_bytes.ensures.value c.utf8.text c.requires c.in-Some.ensures).within in
    search rules

pub end_of_word-after-requires : goal.end_of_word-after-requires
end_of_word-after-requires c =
    elim c.match-first_digits.branch [
      | in-Some+else-ends_word w ↦
          (let here = digits_here c.args.at c.as_bytes.ensures.value c.utf8.text c.requires w.in-Some.ensures in
          rw w.from-is (record { boundary = here.boundary; forward = omega arith; same_rest = here.behind }))
      | in-None w ↦ rw w.from-is (record { boundary = c.requires; forward = omega arith; same_rest = refl })
    ]

pub returns-then-ends_word-clause-read : goal.returns-then-ends_word-clause-read
returns-then-ends_word-clause-read c =
    let bytes = c.args.text.now in
    let at = c.args.at in
    let count = c.in-Some.count in
    let z = c.in-Some.number in
    let here = digits_here at c.as_bytes.ensures.value c.utf8.text c.requires c.in-Some.ensures in
    let some : at ≡ at + count → ⊥ = λ e. omega (arith, e, here.some) in
    let leaves = here.ends (c.ends_word.ensures c.if-ends_word.true) in
    let word = word_run bytes at (at + count) c.utf8.text c.requires leaves some in
    let fits : SFits w64 z = search rules in
    let is = word_stands bytes at (at + count) (between bytes at (at + count)) (Raw.integer z) word.0 word.1 leaves.left
    here.value in
    let same = to_z-of_z w64 z fits in
    search (rules, the_lemmas)
