-- The text of a vector, piece by piece.
use Rattle.std.proofs.Common.{◌≡◌, ℕ, zero, suc, ◌+◌, ◌-◌, ◌*◌, ◌/◌, ◌%◌, ◌^◌, ◌<◌, List, [], ◌∷◌, ◌++◌, Option, Some, None, sym, refl, ap, ◌∙◌, arith, append_assoc, append-nil}
use Rattle.std.specs.Prelude.{codes, slice_index}
use Rattle.std.specs.List.{flat_map, range_with_len}
use Rattle.std.proofs.lemmas.Grind.{flat_map-append}
use Rattle.rmt_bits.proofs.FunctionLaws.{funext}
use Rattle.rmt_bits.proofs.ListLaws.{range_more}
use Rattle.rmt_config.specs.declared.config.Config.{Config}
use Rattle.rmt_config.specs.Life.{Words}
use Rattle.rmt_config.specs.ChipRun.{words_at}
use Rattle.rmt_config.specs.RunInputs.{Input}
use Rattle.rmt_chip.specs.declared.seen.Seen.{Seen}
use Rattle.rmt_chip.specs.Held.{Entered}
use Rattle.rmt_chip.specs.Stands.{Shows, in_flight}
use Rattle.rmt_drive.specs.ChipText.{flying_below, line_at}
use Rattle.rmt_drive.specs.ProbeText.{hex_text, vector_line, word_text, words_below}

-- one more digit
pub hex_more : (places value : ℕ) (old new all : List ℕ) (digit : ℕ) → 0 < places → old ++ hex_text places value ≡ all
    → new ≡ old ++ digit ∷ [] → digit ≡ slice_index (codes "0123456789abcdef") (value / 2 ^ (4 * (places - 1)) % 16) → new ++ hex_text (places - 1) value ≡ all
hex_more zero value old new all digit h was is same = absurd (omega (arith, h))
hex_more (suc places) value old new all digit h was is same =
    let one : suc places - 1 ≡ places = omega arith in
    let first : digit ∷ hex_text places value ≡ hex_text (suc places) value = ap (λ d. d ∷ hex_text places value) (same ∙ ap (λ n. slice_index (codes "0123456789abcdef") (value / 2 ^ (4 * n) % 16)) one) in
    ap (λ n. new ++ hex_text n value) one ∙ ap (λ l. l ++ hex_text places value) is ∙ append_assoc old (digit ∷ []) (hex_text places value) ∙ ap (λ l. old ++ l) first ∙ was

-- no word, and one more
pub no_words : (words : Words) (old : List ℕ) → old ≡ old ++ words_below words 0
unfolding words_below
no_words words old = sym (append-nil old)

pub words_more : (words : Words) (front old new : List ℕ) (n value : ℕ) → old ≡ front ++ words_below words n → new ≡ old ++ word_text n value → value ≡ words n → new ≡ front ++ words_below words (n + 1)
unfolding words_below
words_more words front old new n value was is same =
    let f = λ (w : ℕ). word_text w (words w) in
    let at : 0 + n ≡ n = omega arith in
    let last : flat_map f (range_with_len 0 (n + 1)) ≡ flat_map f (range_with_len 0 n) ++ word_text n (words n) =
    ap (λ l. flat_map f l) (range_more 0 n) ∙ flat_map-append f (range_with_len 0 n) ((0 + n) ∷ []) ∙ ap (λ l. flat_map f (range_with_len 0 n) ++ l) (append-nil (f (0 + n)) ∙ ap f at) in
    is ∙ ap (λ l. l ++ word_text n value) was ∙ append_assoc front (flat_map f (range_with_len 0 n)) (word_text n value)
    ∙ ap (λ v. front ++ (flat_map f (range_with_len 0 n) ++ word_text n v)) same ∙ ap (λ l. front ++ l) (sym last)

-- no age, and one more
pub no_lines : (c : Config) (made : List Input) (text all : List ℕ) → text ++ flying_below c made 0 ≡ all → text ≡ all
unfolding flying_below
no_lines c made text all is = sym (append-nil text) ∙ is

pub age_more : (c : Config) (made : List Input) (below : ℕ) (old new all : List ℕ) → 0 < below → old ++ flying_below c made below ≡ all
    → new ≡ old ++ line_at c (below - 1) (in_flight c made (below - 1)) → new ++ flying_below c made (below - 1) ≡ all
unfolding flying_below
age_more c made zero old new all h was is = absurd (omega (arith, h))
age_more c made (suc age) old new all h was is =
    let one : suc age - 1 ≡ age = omega arith in
    let line = line_at c age (in_flight c made age) in
    ap (λ n. new ++ flying_below c made n) one
    ∙ ap (λ l. l ++ flying_below c made age) (is ∙ ap (λ n. old ++ line_at c n (in_flight c made n)) one)
    ∙ append_assoc old line (flying_below c made age) ∙ was

-- ---- what is seen

-- the line of what is seen of an age
pub line_seen : (c : Config) (age : ℕ) (o : Option Entered) (seen : Seen) → Shows c age o (Some seen) → vector_line seen.number age (λ w. slice_index seen.words.now w) ≡ line_at c age o
line_seen c age None seen shows = absurd shows
line_seen c age (Some e) seen shows =
    ap (λ m. vector_line m age (λ w. slice_index seen.words.now w)) shows.0
    ∙ ap (λ (words : Words). vector_line e.number age words) (funext (λ w. slice_index seen.words.now w) (words_at e.look c e.packet age) shows.1)

pub line_unseen : (c : Config) (age : ℕ) (o : Option Entered) → Shows c age o None → [] ≡ line_at c age o
line_unseen c age None shows = refl
line_unseen c age (Some e) shows = absurd shows
