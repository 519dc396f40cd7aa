-- The steps of a reader at an operand that begins with a name.
use Rattle.rmt_syntax.proofs.Words.{◌≡◌, ◌∙◌, inl, inr, ℕ, zero, suc, ◌<◌, ◌≤◌, true, sym, ap, refl, subst, List, [], ◌∷◌, ◌++◌, Some, length, arith, slice_get, Token, One, Node, Whole, Done, FieldEnd, terminal_of, Mark, leaf, opens, tokens_in, Goal, part, phrase, shut, Reads, token, node, choose, member, front, tails, Apart, IsBefore, slice_get-item, leb_tells, both_ways, choice_of}
use Rattle.rmt_syntax.proofs.Words.kind
use Rattle.rmt_syntax.proofs.Words.terminal
use Rattle.rmt_syntax.proofs.Words.rule
use Rattle.rmt_syntax.proofs.Fronts.{first_token, chosen}
use Rattle.rmt_syntax.proofs.Machine.{take_next, room, step, read_next, after_node, after_one, choose_now}
use Rattle.rmt_syntax.proofs.Choosing.{as_form}
use Rattle.rmt_syntax.proofs.Cuts.{Leads, at_once}

-- the marks of an operand: of a field of a header, or of a name with no dot behind it
pub data Operand (gs : List Goal) : List Mark → Type 0 where
  field : {t u : Token} {ms : List Mark} → terminal_of u.what ≡ terminal.Dot → Reads (phrase FieldEnd ∷ shut rule.Field ∷ phrase Done ∷ gs) ms → Operand gs (opens rule.Field ∷ leaf t ∷ leaf u ∷ ms)
  lone : {t : Token} {ms : List Mark} → Reads (phrase Done ∷ gs) ms → Operand gs (leaf t ∷ ms)

-- a field that begins with a name
field_by : {gs : List Goal} {t : Token} {more : List Token} {ms : List Mark} → Reads (phrase (Whole rule.Field) ∷ shut rule.Field ∷ phrase Done ∷ gs) ms
    → tokens_in ms ≡ t ∷ more → terminal_of t.what ≡ terminal.Name → Operand gs (opens rule.Field ∷ ms)
field_by {gs} {t} {more} {ms} d is name =
    let n = choose_now refl d in
    let found = chosen (Whole rule.Field) t more n.0 n.1 n.2 (shut rule.Field ∷ phrase Done ∷ gs) ms n.3 n.4 is (λ c m. cc) refl in
    let a = after_one (as_form {qs = One terminal.Name ∷ One terminal.Dot ∷ []} {y = FieldEnd} (shut rule.Field ∷ phrase Done ∷ gs) (sym found ∙ ap (choice_of (Whole rule.Field)) name) n.4) in
    let b = after_one a.4 in
    subst (λ (v : List Mark). Operand gs (opens rule.Field ∷ v)) (sym (a.2 ∙ ap (λ (v : List Mark). leaf a.0 ∷ v) b.2)) (field b.3 b.4)

-- an operand that begins with a name
pub operand_by : {gs : List Goal} {t : Token} {more : List Token} {ms : List Mark} → Reads (phrase (Whole rule.Leaf) ∷ gs) ms
    → tokens_in ms ≡ t ∷ more → terminal_of t.what ≡ terminal.Name → Operand gs ms
operand_by {gs = gs} (choose zero ps next e d) is name =
    let a = after_node (as_form {qs = Node rule.Field ∷ []} {y = Done} gs (sym e) d) in
    subst (Operand gs) (sym a.1) (field_by a.2 (sym (ap tokens_in a.1) ∙ is) name)
operand_by {gs = gs} (choose (suc zero) ps next e d) is name =
    let a = after_one (as_form {qs = One terminal.Name ∷ []} {y = Done} gs (sym e) d) in
    subst (Operand gs) (sym a.2) (lone a.4)
operand_by {gs = gs} {t = t} {more = more} (choose (suc (suc zero)) ps next e d) is name =
    let a = after_one (as_form {qs = One terminal.Number ∷ []} {y = Done} gs (sym e) d) in
    let both : a.0 ∷ tokens_in a.1 ≡ t ∷ more = sym (ap tokens_in a.2) ∙ is in
    let it : a.0 ≡ t = cc in
    let other : terminal.Number ≡ terminal.Name = sym a.3 ∙ ap (λ (v : Token). terminal_of v.what) it ∙ name in cc
operand_by (choose (suc (suc (suc i))) ps next e d) is name = cc

-- it begins with its name, but for the beginning of a field
pub name_leads : {gs : List Goal} {ms : List Mark} → Operand gs ms → Leads ms
name_leads (field {t = t} {u = u} {ms = ms} dot d) =
    record { front = opens rule.Field ∷ leaf t ∷ []; rest = leaf u ∷ ms; all = refl; one = refl; fits = λ n h. (h, (h, h)) }
name_leads (lone {t = t} {ms = ms} d) = at_once t ms

-- a name with no dot behind it
lone_whole : {gs : List Goal} {t u : Token} {more : List Token} {ms : List Mark} → Operand gs ms → tokens_in ms ≡ t ∷ u ∷ more → (terminal_of u.what ≡ terminal.Dot → ⊥)
    → (rest : List Mark) × (ms ≡ leaf t ∷ rest) × Reads (phrase Done ∷ gs) rest
lone_whole {u = u} (field {u = v} dot d) e undotted = let it : v ≡ u = cc in absurd (undotted (sym (ap (λ (w : Token). terminal_of w.what) it) ∙ dot))
lone_whole {t = t} (lone {t = v} {ms = ms} d) e undotted = let it : v ≡ t = cc in (ms, ap (λ (w : Token). leaf w ∷ ms) it, d)

-- a name with a dot behind it
field_whole : {gs : List Goal} {t u : Token} {more : List Token} {ms : List Mark} → Operand gs ms → tokens_in ms ≡ t ∷ u ∷ more → terminal_of u.what ≡ terminal.Dot
    → Apart (tails (Whole rule.Leaf)) (front gs) → (rest : List Mark) × (ms ≡ opens rule.Field ∷ leaf t ∷ rest) × Reads (part (One terminal.Dot) ∷ phrase FieldEnd ∷ shut rule.Field ∷ phrase Done ∷ gs) rest
field_whole {t = t} (field {t = v} {u = w} {ms = ms} dot d) e is apart = let it : v ≡ t = cc in (leaf w ∷ ms, ap (λ (x : Token). opens rule.Field ∷ leaf x ∷ leaf w ∷ ms) it, token dot d)
field_whole {gs} {u = u} {more = more} (lone {ms = ms} d) e is apart =
    let next : tokens_in ms ≡ u ∷ more = cc in
    let m : member (terminal_of u.what) (front gs) ≡ true = first_token u more d next in
    let n : member terminal.Dot (front gs) ≡ true = subst (λ c. member c (front gs) ≡ true) is m in
    absurd (both_ways _ (apart terminal.Dot refl) n)

pub not_last : (tokens : List Token) (at : ℕ) (t : Token) → (length tokens ≤ suc at → t.what ≡ kind.End) → terminal_of t.what ≡ terminal.Name → suc at < length tokens
not_last tokens at t last name = elim (leb_tells (length tokens) (suc at)) [
  | inl e ↦ (let end : terminal.End ≡ terminal.Name = sym (ap terminal_of (last e.1)) ∙ name in cc)
  | inr e ↦ omega (arith, e.1)
]

-- an operand that is a name
pub lone_stands : {tokens : List Token} {at : ℕ} {t : Token} {gs : List Goal} {seen : List Mark} {depth : ℕ} → slice_get tokens at ≡ Some t
    → (length tokens ≤ suc at → t.what ≡ kind.End) → terminal_of t.what ≡ terminal.Name → ((u : Token) → slice_get tokens (suc at) ≡ Some u → terminal_of u.what ≡ terminal.Dot → ⊥)
    → IsBefore tokens at (phrase (Whole rule.Leaf) ∷ gs) seen depth → IsBefore tokens (suc at) (phrase Done ∷ gs) (seen ++ leaf t ∷ []) depth
lone_stands {tokens} {at} {t} {gs} here last name undotted s =
    let inside : suc at < length tokens = not_last tokens at t last name in
    let next = slice_get-item tokens (suc at) inside in
    step here (leaf t ∷ []) (next.0 ∷ []) s (take_next tokens (suc at) next.0 next.1) (read_next (leaf t ∷ []) refl here s)
    (λ rest d. choose 1 (One terminal.Name ∷ []) Done refl (token name d))
    (λ rest more d e. lone_whole (operand_by d e name) e (undotted next.0 next.1))
    (room s, room s) ((λ k. cc), (λ c m. cc), s.orderly.2) (λ h. absurd (omega (arith, h, inside)))

-- an operand that is a field of a header
pub field_stands : {tokens : List Token} {at : ℕ} {t u : Token} {gs : List Goal} {seen : List Mark} {depth : ℕ} → slice_get tokens at ≡ Some t
    → (length tokens ≤ suc at → t.what ≡ kind.End) → terminal_of t.what ≡ terminal.Name → slice_get tokens (suc at) ≡ Some u → terminal_of u.what ≡ terminal.Dot
    → IsBefore tokens at (phrase (Whole rule.Leaf) ∷ gs) seen depth
    → IsBefore tokens (suc at) (part (One terminal.Dot) ∷ phrase FieldEnd ∷ shut rule.Field ∷ phrase Done ∷ gs) (seen ++ opens rule.Field ∷ leaf t ∷ []) depth
field_stands {tokens} {at} {t} {u} {gs} here last name there dot s =
    step here (opens rule.Field ∷ leaf t ∷ []) (u ∷ []) s (take_next tokens (suc at) u there) (read_next (opens rule.Field ∷ leaf t ∷ []) refl here s)
    (λ rest d. choose 0 (Node rule.Field ∷ []) Done refl (node (choose 0 (One terminal.Name ∷ One terminal.Dot ∷ []) FieldEnd refl (token name d))))
    (λ rest more d e. field_whole (operand_by d e name) e dot s.orderly.1)
    (room s, (room s, room s)) ((λ k. cc), ((λ k. cc), (λ c m. cc), ((λ k. cc), (λ c m. cc), s.orderly.2))) (λ h. absurd (omega (arith, h, not_last tokens at t last name)))
