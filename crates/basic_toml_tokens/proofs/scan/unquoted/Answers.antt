use Rattle.std.proofs.Common.{◌≡◌, ◌<◌, ℕ, List, length, get_or, ap, sym, subst, ◌∙◌, arith, Some}
use Rattle.std.proofs.lemmas.List.{get_or_past}
use Rattle.std.proofs.lemmas.Bool.{ne_eqb}
use Rattle.basic_toml_tokens.specs.Text.{is_keylike, is_blank}
use Rattle.basic_toml_tokens.specs.Scan.{IsPunctuation, tells_unquoted}
use Rattle.basic_toml_tokens.proofs.FirstByteTellsTheToken.{word_found, blanks_found, hash_boundary, comment_found}
use Rattle.basic_toml_tokens.proofs.FirstByteTellsTheToken.{punctuation_found, untold}
use Rattle.basic_toml_tokens.proofs.scan.unquoted.Goals as goal

pub returns-then-at-bytes-clause-found : goal.returns-then-at-bytes-clause-found
returns-then-at-bytes-clause-found c =
    ap tells_unquoted (get_or_past c.args.text.now c.args.at 0
    (omega (arith, ap length c.as_bytes-bytes.ensures.value, c.if-at-bytes.true)))

pub returns-then-is_in-clause-found : goal.returns-then-is_in-clause-found
returns-then-is_in-clause-found c =
    let same = c.as_bytes-bytes.ensures.value in
    let within : c.args.at < length c.args.text.now =
    omega (arith, ap length same, c.requires.0, c.if-at-bytes.false) in
    let byte : get_or c.args.text.now c.args.at 0 ≡ get_or c.as_bytes-bytes.result.now c.args.at 0 =
    ap (λ (t : List ℕ). get_or t c.args.at 0) (sym same) in
    word_found c.args.text.now c.args.at c.utf8.text c.requires within c.range.result c.end_of_run-end.result
    (ap is_keylike byte ∙ sym c.is_in.ensures ∙ c.if-is_in.true) c.end_of_run-end.ensures.run c.range.ensures.value

pub returns-then-is_in-2-clause-found : goal.returns-then-is_in-2-clause-found
returns-then-is_in-2-clause-found c =
    let same = c.as_bytes-bytes.ensures.value in
    let within : c.args.at < length c.args.text.now =
    omega (arith, ap length same, c.requires.0, c.if-at-bytes.false) in
    let byte : get_or c.args.text.now c.args.at 0 ≡ get_or c.as_bytes-bytes.result.now c.args.at 0 =
    ap (λ (t : List ℕ). get_or t c.args.at 0) (sym same) in
    blanks_found c.args.text.now c.args.at c.utf8.text c.requires within c.range-then-is_in-2.result
    c.end_of_run-end-then-is_in-2.result (ap is_blank byte ∙ sym c.is_in-2.ensures ∙ c.if-is_in-2.true)
    c.end_of_run-end-then-is_in-2.ensures.run c.range-then-is_in-2.ensures.value

pub end_of_run-end-requires-then-byte-eq35 : goal.end_of_run-end-requires-then-byte-eq35
end_of_run-end-requires-then-byte-eq35 c =
    let same = c.as_bytes-bytes.ensures.value in
    let within : c.args.at < length c.args.text.now =
    omega (arith, ap length same, c.requires.0, c.if-at-bytes.false) in
    let byte : get_or c.args.text.now c.args.at 0 ≡ get_or c.as_bytes-bytes.result.now c.args.at 0 =
    ap (λ (t : List ℕ). get_or t c.args.at 0) (sym same) in
    hash_boundary c.args.text.now c.args.at c.utf8.text c.requires within (byte ∙ c.if-byte-eq35.true)

pub returns-then-byte-eq35-clause-found : goal.returns-then-byte-eq35-clause-found
returns-then-byte-eq35-clause-found c =
    let same = c.as_bytes-bytes.ensures.value in
    let within : c.args.at < length c.args.text.now =
    omega (arith, ap length same, c.requires.0, c.if-at-bytes.false) in
    let byte : get_or c.args.text.now c.args.at 0 ≡ get_or c.as_bytes-bytes.result.now c.args.at 0 =
    ap (λ (t : List ℕ). get_or t c.args.at 0) (sym same) in
    comment_found c.args.text.now c.args.at c.utf8.text c.requires within c.range-then-byte-eq35.result
    c.end_of_run-end-then-byte-eq35.result (byte ∙ c.if-byte-eq35.true)
    c.end_of_run-end-then-byte-eq35.ensures.run c.range-then-byte-eq35.ensures.value

pub returns-in-Some-clause-found : goal.returns-in-Some-clause-found
returns-in-Some-clause-found c =
    let same = c.as_bytes-bytes.ensures.value in
    let within : c.args.at < length c.args.text.now =
    omega (arith, ap length same, c.requires.0, c.if-at-bytes.false) in
    let byte : get_or c.args.text.now c.args.at 0 ≡ get_or c.as_bytes-bytes.result.now c.args.at 0 =
    ap (λ (t : List ℕ). get_or t c.args.at 0) (sym same) in
    punctuation_found c.args.text.now c.args.at c.utf8.text c.requires within c.in-Some.token
    (subst (λ (b : ℕ). IsPunctuation b (Some c.in-Some.token)) (sym byte) c.in-Some.ensures)

pub returns-in-None-clause-found : goal.returns-in-None-clause-found
returns-in-None-clause-found c =
    let same = c.as_bytes-bytes.ensures.value in
    let byte : get_or c.args.text.now c.args.at 0 ≡ get_or c.as_bytes-bytes.result.now c.args.at 0 =
    ap (λ (t : List ℕ). get_or t c.args.at 0) (sym same) in
    ap tells_unquoted byte ∙ untold (get_or c.as_bytes-bytes.result.now c.args.at 0) c.in-None.ensures
    (sym c.is_in-2.ensures ∙ c.if-is_in-2.false) (sym c.is_in.ensures ∙ c.if-is_in.false)
    (ne_eqb (get_or c.as_bytes-bytes.result.now c.args.at 0) 35 c.if-byte-eq35.false)
