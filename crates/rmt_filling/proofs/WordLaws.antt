-- Words that are written into a row of TCAM blocks.
use Rattle.std.proofs.Common.{◌≡◌, ℕ, ◌+◌, ◌*◌, ◌/◌, ◌%◌, ◌^◌, ◌<◌, ◌≤◌, List, [], ◌∷◌, length, get_or, take, drop, map, refl, sym, ap, ◌∙◌, subst, arith, inl, inr, ◌≢◌}
use Rattle.std.specs.Prelude.{All, AllPairs, bit_and, sum}
use Rattle.std.specs.List.{AllZip}
use Rattle.std.proofs.lemmas.Bool.{cases_eq, eq-eqb}
use Rattle.std.proofs.lemmas.List.{length-map, get_or-map, same_lists, get_or_default}
use Rattle.std.proofs.lemmas.List.Elements.{All-head, All-tail, All-cons, All-nil}
use Rattle.std.proofs.lemmas.Nat.{and_block, and_le_l, same_from_place}
use Rattle.rmt_filling.specs.Types.{Test}
use Rattle.rmt_ast.specs.WellFormed.{IsTest}
use Rattle.rmt_config.specs.Cells.{Blocks, blocks_at}
use Rattle.rmt_pack.specs.declared.tcam.TcamWord.{TcamWord}
use Rattle.rmt_config.specs.Rooms.{side_by_side, tests_as_one}
use Rattle.rmt_pack.specs.Tcam.{FillsRow, IsWords, Passes, joined_words}
use Rattle.rmt_pack.proofs.TcamLaws.{matched, values-fit}
use Rattle.rmt_pack.proofs.BlockLaws.{part-item, part-length, place-same}
use Rattle.rmt_filling.specs.Holding.{PutsRow}
use Rattle.rmt_filling.specs.Words.{IsMaskedWord, WordsSo}

-- ---- one word after another

pub words-step : (old mid new : Blocks) (row : ℕ) (blocks : List ℕ) (first at : ℕ) (words : List ℕ) (x : ℕ) → AllPairs ◌≢◌ blocks → first + at < length blocks → get_or words at 0 ≡ x
    → new (get_or blocks (first + at) 0) row ≡ x → ((b r : ℕ) → (b ≡ get_or blocks (first + at) 0 → r ≡ row → ⊥) → new b r ≡ mid b r)
    → WordsSo old mid row blocks first at words → WordsSo old new row blocks first (at + 1) words
words-step old mid new row blocks first at words x apart there is here elsewhere so = record {
  written = λ k lt. elim (cases_eq k at) as (λ _. new (get_or blocks (first + k) 0) row ≡ get_or words k 0) [
    | inl e ↦ ap (λ i. new (get_or blocks (first + i) 0) row) e ∙ here ∙ sym is ∙ ap (λ i. get_or words i 0) (sym e)
    | inr ne ↦
        let less : k < at = omega (arith, ne, lt) in
        elsewhere (get_or blocks (first + k) 0) row (λ eb er.
        let same = place-same blocks (first + k) (first + at) apart (omega (arith, less, there)) there eb in ne (omega (arith, same)))
        ∙ so.written k less
  ];
  others = λ b r out.
      elsewhere b r (λ eb er. out er at (omega arith) eb) ∙ so.others b r (λ er k lt eb. out er k (omega (arith, lt)) eb);
}

-- ---- all words

-- the words of a number stand in a row
pub words-row : (old new : Blocks) (row : ℕ) (blocks : List ℕ) (first n : ℕ) (words : List ℕ) → first + length words ≤ length blocks → FillsRow words n
    → WordsSo old new row blocks first (length words) words → PutsRow old new row (take (length words) (drop first blocks)) n
words-row old new row blocks first n words room fills so = record {
  here = fills new row own (same_lists (map (λ b. new b row) own) words (length-map own (λ b. new b row) ∙ long)
      (λ k d lt.
      let lt' : k < length own = let e = length-map own (λ b. new b row) in omega (arith, e, lt) in
      let lt'' : k < length words = omega (arith, long, lt') in
      get_or_default (map (λ b. new b row) own) k d (new 0 row) lt ∙ get_or-map (λ b. new b row) own k 0 (new 0 row) lt'
      ∙ ap (λ b. new b row) (part-item (length words) first k 0 blocks lt') ∙ so.written k lt'' ∙ get_or_default words k 0 d lt''));
  elsewhere = λ b r out. so.others b r (λ er k lt eb.
      let lt' : k < length own = omega (arith, long, lt) in
      out er (k, lt', get_or_default own k b 0 lt' ∙ part-item (length words) first k 0 blocks lt' ∙ sym eb));
}
  where
    own : List ℕ
    own = take (length words) (drop first blocks)

    long : length own ≡ length words
    long = part-length (length words) first blocks room

-- ---- words of tests

-- each word is masked where all are together
pub words-masked : (words : List TcamWord) → All (λ w. w < 2 ^ 40) (map (λ (w : TcamWord). w.value) words) → All (λ w. w < 2 ^ 40) (map (λ (w : TcamWord). w.mask) words)
    → bit_and (joined_words (map (λ (w : TcamWord). w.value) words)) (joined_words (map (λ (w : TcamWord). w.mask) words)) ≡ joined_words (map (λ (w : TcamWord). w.value) words)
    → All IsMaskedWord words
words-masked [] values masks same = All-nil IsMaskedWord
words-masked (x ∷ xs) values masks same =
    let v : x.value < 2 ^ 40 = All-head (λ w. w < 2 ^ 40) x.value (map (λ (w : TcamWord). w.value) xs) values in
    let m : x.mask < 2 ^ 40 = All-head (λ w. w < 2 ^ 40) x.mask (map (λ (w : TcamWord). w.mask) xs) masks in
    let ms = joined_words (map (λ (w : TcamWord). w.mask) xs) in
    let parts = split x.value x.mask (joined_words (map (λ (w : TcamWord). w.value) xs)) ms v m same in
    All-cons IsMaskedWord x xs (record { value = v; mask = m; masked = parts.0 })
    (words-masked xs (All-tail (λ w. w < 2 ^ 40) x.value (map (λ (w : TcamWord). w.value) xs) values) (All-tail (λ w. w < 2 ^ 40) x.mask (map (λ (w : TcamWord). w.mask) xs) masks) parts.1)
  where
    split : (v m vs ms : ℕ) → v < 2 ^ 40 → m < 2 ^ 40 → bit_and (v + 2 ^ 40 * vs) (m + 2 ^ 40 * ms) ≡ v + 2 ^ 40 * vs → (bit_and v m ≡ v) × (bit_and vs ms ≡ vs)
    split v m vs ms lv lm e =
        let one : v + 2 ^ 40 * vs ≡ vs * 2 ^ 40 + v = omega arith in
        let two : m + 2 ^ 40 * ms ≡ ms * 2 ^ 40 + m = omega arith in
        let less : bit_and v m < 2 ^ 40 = let le = and_le_l v m in omega (arith, le, lv) in
        let joined : bit_and vs ms * 2 ^ 40 + bit_and v m ≡ vs * 2 ^ 40 + v =
        sym (and_block 40 vs ms v m lv lm) ∙ ap (λ n. bit_and n (ms * 2 ^ 40 + m)) (sym one) ∙ ap (λ n. bit_and (v + 2 ^ 40 * vs) n) (sym two) ∙ e ∙ one in
        let same = same_from_place (bit_and vs ms) (bit_and v m) vs v (2 ^ 40) less lv joined in
        (same.1, same.0)

passes-own : (ts : List Test) → AllZip Passes ts (map (λ (t : Test). t.value) ts)
passes-own [] = tt
passes-own (t ∷ ts) = (eq-eqb (bit_and t.value t.mask) (bit_and t.value t.mask) refl, passes-own ts)

-- the words of tests are masked
pub tests-masked : (widths : List ℕ) (tests : List Test) (row : List TcamWord) → AllZip IsTest widths tests
    → IsWords (map (λ (w : TcamWord). w.value) row) (side_by_side widths (map (λ (t : Test). t.value) tests)) (sum widths)
    → IsWords (map (λ (w : TcamWord). w.mask) row) (side_by_side widths (map (λ (t : Test). t.mask) tests)) (sum widths) → All IsMaskedWord row
tests-masked widths tests row all values masks =
    let own = map (λ (t : Test). t.value) tests in
    words-masked row values.each masks.each
    (ap (λ n. bit_and n (joined_words (map (λ (w : TcamWord). w.mask) row))) values.value
    ∙ ap (bit_and (side_by_side widths own)) masks.value
    ∙ matched widths tests own all (values-fit widths tests all) (passes-own tests)
    ∙ sym values.value)

-- the words of tests stand in a row of a part
pub tests-row : (part : Test → ℕ) (side : TcamWord → ℕ) (old new : Blocks) (cell each : ℕ) (blocks widths : List ℕ) (tests : List Test) (row : List TcamWord) → length row ≡ each
    → cell / 2048 * each + each ≤ length blocks → FillsRow (map side row) (side_by_side widths (map part tests))
    → WordsSo old new (cell % 2048) blocks (cell / 2048 * length row) (length row) (map side row)
    → PutsRow old new (cell % 2048) (blocks_at blocks each (cell / 2048)) (tests_as_one part widths tests)
tests-row part side old new cell each blocks widths tests row long room fills so =
    let words = map side row in
    let as_many : length words ≡ each = length-map row side ∙ long in
    let first = cell / 2048 * each in
    let here : WordsSo old new (cell % 2048) blocks first (length words) words =
    subst (λ k. WordsSo old new (cell % 2048) blocks first k words) (sym (length-map row side))
    (subst (λ k. WordsSo old new (cell % 2048) blocks (cell / 2048 * k) (length row) words) long so) in
    let fits : first + length words ≤ length blocks = omega (arith, as_many, room) in
    subst (λ k. PutsRow old new (cell % 2048) (take k (drop first blocks)) (tests_as_one part widths tests)) as_many
    (words-row old new (cell % 2048) blocks first (tests_as_one part widths tests) words fits fills here)
