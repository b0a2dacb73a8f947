use Rattle.std.proofs.Common.{◌≡◌, ◌<◌, ◌==◌, ℕ, false, List, [], ◌∷◌, length, get_or, arith, ap, sym, ◌∙◌}
use Rattle.basic_toml_grammar.specs.Steps.{number}
use Rattle.basic_toml_read.specs.declared.section.Key.{Key}
use Rattle.basic_toml_read.specs.SectionView.{header_texts}
use Rattle.basic_toml_origin.specs.declared.ways.Meeting.TheVariants.{Reaches}
use Rattle.basic_toml_origin.specs.Path.{path_of}
use Rattle.basic_toml_origin.specs.Ways.{further, meets}
use Rattle.basic_toml_origin.proofs.StepsLeft.{element_is_counted, element_is_met, left_there, read_is}
use Rattle.basic_toml_origin.proofs.find.enter.Goals as goal

pub index-number-requires : goal.index-number-requires
index-number-requires c =
    let ks = c.args.section.now.header.items in
    let counts = c.args.counts.now.items in
    let p = path_of c.args.path.now in
    let some : (length ks == 0) ≡ false =
    ap (λ (l : List Key). length l == 0) (sym c.as_slice-header.ensures.value) ∙ sym c.is_empty.ensures
    ∙ c.if-is_empty.false in
    let reached : meets counts c.args.section.now.is_array (header_texts ks) p ≡ Reaches c.in-Reaches.left =
    ap (λ (l : List Key). meets counts c.args.section.now.is_array (header_texts l) p) (sym c.as_slice-header.ensures.value)
    ∙ ap (λ (l : List ℕ). meets l c.args.section.now.is_array (header_texts c.as_slice-header.result.now) p)
    (sym c.as_slice.ensures.value)
    ∙ sym c.meet-target.ensures ∙ c.in-Reaches.is in
    let within : c.in-Reaches.left < length c.args.path.now =
    left_there counts c.args.section.now.is_array ks c.args.path.now c.in-Reaches.left some reached in
    omega (arith, within, c.requires.room, c.as_slice.ensures.len, ap length c.as_slice.ensures.value)

pub index_mut-requires : goal.index_mut-requires
index_mut-requires c =
    let ks = c.args.section.now.header.items in
    let counts = c.args.counts.now.items in
    let p = path_of c.args.path.now in
    let some : (length ks == 0) ≡ false =
    ap (λ (l : List Key). length l == 0) (sym c.as_slice-header.ensures.value) ∙ sym c.is_empty.ensures
    ∙ c.if-is_empty.false in
    let reached : meets counts c.args.section.now.is_array (header_texts ks) p ≡ Reaches c.in-Reaches.left =
    ap (λ (l : List Key). meets counts c.args.section.now.is_array (header_texts l) p) (sym c.as_slice-header.ensures.value)
    ∙ ap (λ (l : List ℕ). meets l c.args.section.now.is_array (header_texts c.as_slice-header.result.now) p)
    (sym c.as_slice.ensures.value)
    ∙ sym c.meet-target.ensures ∙ c.in-Reaches.is in
    let within : c.in-Reaches.left < length c.args.path.now =
    left_there counts c.args.section.now.is_array ks c.args.path.now c.in-Reaches.left some reached in
    omega (arith, within, c.requires.room, c.as_slice.ensures.len, ap length c.as_slice.ensures.value)

pub overflow_add-number : goal.overflow_add-number
overflow_add-number c =
    let ks = c.args.section.now.header.items in
    let counts = c.args.counts.now.items in
    let p = path_of c.args.path.now in
    let some : (length ks == 0) ≡ false =
    ap (λ (l : List Key). length l == 0) (sym c.as_slice-header.ensures.value) ∙ sym c.is_empty.ensures
    ∙ c.if-is_empty.false in
    let reached : meets counts c.args.section.now.is_array (header_texts ks) p ≡ Reaches c.in-Reaches.left =
    ap (λ (l : List Key). meets counts c.args.section.now.is_array (header_texts l) p) (sym c.as_slice-header.ensures.value)
    ∙ ap (λ (l : List ℕ). meets l c.args.section.now.is_array (header_texts c.as_slice-header.result.now) p)
    (sym c.as_slice.ensures.value)
    ∙ sym c.meet-target.ensures ∙ c.in-Reaches.is in
    let within : c.in-Reaches.left < length c.args.path.now =
    left_there counts c.args.section.now.is_array ks c.args.path.now c.in-Reaches.left some reached in
    let there : c.index-number.result.now ≡ get_or counts c.in-Reaches.left 0 =
    read_is counts c.in-Reaches.left c.index-number.result.now (omega (arith, within, c.requires.room)) c.index-number.ensures in
    omega (arith, there, c.requires.small c.in-Reaches.left)

pub meet_element-requires : goal.meet_element-requires
meet_element-requires c =
    let ks = c.args.section.now.header.items in
    let counts = c.args.counts.now.items in
    let p = path_of c.args.path.now in
    let some : (length ks == 0) ≡ false =
    ap (λ (l : List Key). length l == 0) (sym c.as_slice-header.ensures.value) ∙ sym c.is_empty.ensures
    ∙ c.if-is_empty.false in
    let reached : meets counts c.args.section.now.is_array (header_texts ks) p ≡ Reaches c.in-Reaches.left =
    ap (λ (l : List Key). meets counts c.args.section.now.is_array (header_texts l) p) (sym c.as_slice-header.ensures.value)
    ∙ ap (λ (l : List ℕ). meets l c.args.section.now.is_array (header_texts c.as_slice-header.result.now) p)
    (sym c.as_slice.ensures.value)
    ∙ sym c.meet-target.ensures ∙ c.in-Reaches.is in
    let within : c.in-Reaches.left < length c.args.path.now =
    left_there counts c.args.section.now.is_array ks c.args.path.now c.in-Reaches.left some reached in
    omega (arith, within)

pub returns-clause-met : goal.returns-clause-met
returns-clause-met c =
    let ks = c.args.section.now.header.items in
    let counts = c.args.counts.now.items in
    let p = path_of c.args.path.now in
    let some : (length ks == 0) ≡ false =
    ap (λ (l : List Key). length l == 0) (sym c.as_slice-header.ensures.value) ∙ sym c.is_empty.ensures
    ∙ c.if-is_empty.false in
    let reached : meets counts c.args.section.now.is_array (header_texts ks) p ≡ Reaches c.in-Reaches.left =
    ap (λ (l : List Key). meets counts c.args.section.now.is_array (header_texts l) p) (sym c.as_slice-header.ensures.value)
    ∙ ap (λ (l : List ℕ). meets l c.args.section.now.is_array (header_texts c.as_slice-header.result.now) p)
    (sym c.as_slice.ensures.value)
    ∙ sym c.meet-target.ensures ∙ c.in-Reaches.is in
    let within : c.in-Reaches.left < length c.args.path.now =
    left_there counts c.args.section.now.is_array ks c.args.path.now c.in-Reaches.left some reached in
    let there : c.index-number.result.now ≡ get_or counts c.in-Reaches.left 0 =
    read_is counts c.in-Reaches.left c.index-number.result.now (omega (arith, within, c.requires.room)) c.index-number.ensures in
    c.meet_element.ensures ∙ ap (λ n. further (Reaches c.in-Reaches.left) (number n ∷ []) p) there
    ∙ element_is_met counts c.args.section.now.is_array ks p c.in-Reaches.left c.if-not-section.false some reached

pub returns-clause-counts : goal.returns-clause-counts
returns-clause-counts c =
    let ks = c.args.section.now.header.items in
    let counts = c.args.counts.now.items in
    let p = path_of c.args.path.now in
    let some : (length ks == 0) ≡ false =
    ap (λ (l : List Key). length l == 0) (sym c.as_slice-header.ensures.value) ∙ sym c.is_empty.ensures
    ∙ c.if-is_empty.false in
    let reached : meets counts c.args.section.now.is_array (header_texts ks) p ≡ Reaches c.in-Reaches.left =
    ap (λ (l : List Key). meets counts c.args.section.now.is_array (header_texts l) p) (sym c.as_slice-header.ensures.value)
    ∙ ap (λ (l : List ℕ). meets l c.args.section.now.is_array (header_texts c.as_slice-header.result.now) p)
    (sym c.as_slice.ensures.value)
    ∙ sym c.meet-target.ensures ∙ c.in-Reaches.is in
    let within : c.in-Reaches.left < length c.args.path.now =
    left_there counts c.args.section.now.is_array ks c.args.path.now c.in-Reaches.left some reached in
    let there : c.index-number.result.now ≡ get_or counts c.in-Reaches.left 0 =
    read_is counts c.in-Reaches.left c.index-number.result.now (omega (arith, within, c.requires.room)) c.index-number.ensures in
    element_is_counted counts c.args.section.now.is_array ks p c.in-Reaches.left c.index-number.result.now
    c.if-not-section.false some reached there
