-- Each list of what is to come has a text.
use Rattle.rmt_syntax.proofs.Words.{◌≡◌, inl, inr, ℕ, zero, suc, Bool, true, sym, refl, subst, List, [], ◌∷◌, ◌++◌, map, Some, None, find, list_all, list_any, Token, TokenKind, Terminal, Part, One, Node, Phrase, Whole, choices, keywords, signs, terminal_of, Mark, leaf, opens, shuts, Goal, part, phrase, shut, Reads, nothing, token, node, end, done, choose, same, is_done, codes, and_parts, or_cases}
use Rattle.rmt_syntax.proofs.Words.kind
use Rattle.rmt_syntax.proofs.Words.terminal
use Rattle.rmt_syntax.proofs.Checks.{has_end, form_ends, part_ends, sound}
use Rattle.rmt_syntax.proofs.Fronts.{done_is}
use Rattle.rmt_syntax.proofs.Sets.{some_at}

-- what a terminal may be: its reserved word or its sign, if it has one
kind_of : Terminal → TokenKind
kind_of terminal.Number = kind.Number 0
kind_of terminal.Equal = kind.Equal
kind_of terminal.End = kind.End
kind_of terminal.Other = kind.Sign 0
kind_of c = elim (find (λ (e : ℕ × Terminal). same e.1 c) signs) [
  | Some e ↦ kind.Sign e.0
  | None ↦ kind.Word (elim (find (λ (e : List ℕ × Terminal). same e.1 c) keywords) [ Some e ↦ e.0 | None ↦ codes "a" ])
]

sample : Terminal → Token
sample c = record { line = 0; column = 0; what = kind_of c }

sample_is : (c : Terminal) → terminal_of (sample c).what ≡ c
unfolding sample kind_of
sample_is terminal.Header = refl
sample_is _ = refl

abbrev Text : List Goal → Type 0
Text gs = (ms : List Mark) × Reads gs ms

-- the phrases that have an end have texts
abbrev Ending : (Phrase → Bool) → Type 0
Ending ends = (x : Phrase) (gs : List Goal) → ends x ≡ true → Text gs → Text (phrase x ∷ gs)

parts_text : (ends : Phrase → Bool) → Ending ends → (ps : List Part) (gs : List Goal) → list_all (part_ends ends) ps ≡ true → Text gs → Text (map part ps ++ gs)
parts_text ends below [] gs h w = w
parts_text ends below (One c ∷ ps) gs h w =
    let rest = parts_text ends below ps gs h w in
    (leaf (sample c) ∷ rest.0, token (sample_is c) rest.1)
parts_text ends below (Node r ∷ ps) gs h w =
    let both = and_parts (ends (Whole r)) (list_all (part_ends ends) ps) h in
    let rest = parts_text ends below ps gs both.1 w in
    let inside = below (Whole r) (shut r ∷ map part ps ++ gs) both.0 (shuts r ∷ rest.0, end rest.1) in
    (opens r ∷ inside.0, node inside.1)

done_text : (x : Phrase) (gs : List Goal) → is_done x ≡ true → Text gs → Text (phrase x ∷ gs)
done_text x gs h w = subst (λ v. Text (phrase v ∷ gs)) (sym (done_is x h)) (w.0, done w.1)

phrase_text : (n : ℕ) → Ending (has_end n)
phrase_text zero x gs h w = done_text x gs h w
phrase_text (suc n) x gs h w = elim (or_cases (is_done x) (list_any (form_ends (has_end n)) (choices x)) h) [
  | inl e ↦ done_text x gs e w
  | inr e ↦ (
      let f = some_at (form_ends (has_end n)) (choices x) e in
      let both = and_parts (list_all (part_ends (has_end n)) f.1.0) (has_end n f.1.1) f.3 in
      let text = parts_text (has_end n) (phrase_text n) f.1.0 (phrase f.1.1 ∷ gs) both.0 (phrase_text n f.1.1 gs both.1 w) in
      (text.0, choose f.0 f.1.0 f.1.1 f.2 text.1))
]

-- what is to come has a text
pub has_text : (gs : List Goal) → Text gs
has_text [] = ([], nothing)
has_text (part (One c) ∷ gs) = let rest = has_text gs in (leaf (sample c) ∷ rest.0, token (sample_is c) rest.1)
has_text (part (Node r) ∷ gs) =
    let rest = has_text gs in
    let inside = phrase_text 4 (Whole r) (shut r ∷ gs) (sound (Whole r)).end (shuts r ∷ rest.0, end rest.1) in
    (opens r ∷ inside.0, node inside.1)
has_text (phrase x ∷ gs) = phrase_text 4 x gs (sound x).end (has_text gs)
has_text (shut r ∷ gs) = let rest = has_text gs in (shuts r ∷ rest.0, end rest.1)
