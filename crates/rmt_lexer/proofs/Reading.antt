-- How the reading of a text goes on behind an item.
use Rattle.std.proofs.Common.{◌≡◌, ℕ, zero, suc, ◌-◌, ◌<◌, List, [], ◌∷◌, ◌++◌, length, take, drop, fold, refl, arith, sub-one, ap, ◌∙◌, Result, Ok, Err}
use Rattle.rmt_lexer.specs.Text.{item_of, read_item, reading, behind, token_at, with_front}
use Rattle.rmt_lexer.specs.declared.token.Token.{Token}
use Rattle.rmt_lexer.specs.declared.token.TokenKind.{TokenKind}
use Rattle.rmt_lexer.specs.declared.item.Item.TheVariants as item
use Rattle.rmt_lexer.specs.declared.position.Position.{Position}
use Rattle.rmt_lexer.specs.declared.fault.ProgramFault.{ProgramFault}
use Rattle.rmt_lexer.specs.declared.fault.ProgramFault.TheVariants.{At}
use Rattle.rmt_lexer.specs.declared.token.TokenKind.TheVariants.{End}

-- tokens before what is read behind them
abbrev pub fronts : List Token → Result (List Token) ProgramFault → Result (List Token) ProgramFault
fronts [] r = r
fronts (t ∷ ts) r = with_front t (fronts ts r)

pub fronts-push : (ts : List Token) (t : Token) (r : Result (List Token) ProgramFault) → fronts ts (with_front t r) ≡ fronts (ts ++ t ∷ []) r
fronts-push [] t r = refl
fronts-push (u ∷ us) t r = ap (with_front u) (fronts-push us t r)

pub fronts-Ok : (ts us : List Token) → fronts ts (Ok us) ≡ Ok (ts ++ us)
fronts-Ok [] us = refl
fronts-Ok (t ∷ ts) us = ap (with_front t) (fronts-Ok ts us)

pub fronts-Err : (ts : List Token) (f : ProgramFault) → fronts ts (Err f) ≡ Err f
fronts-Err [] f = refl
fronts-Err (t ∷ ts) f = ap (with_front t) (fronts-Err ts f)

pub skip : (n : ℕ) (at : Position) (text : List ℕ) → reading n at text ≡ reading 0 (fold behind at (take n text)) (drop n text)
skip zero at [] = refl
skip (suc n) at [] = refl
skip zero at (b ∷ bs) = refl
skip (suc n) at (b ∷ bs) = skip n (behind at b) bs

begun : (at : Position) (b : ℕ) (bs : List ℕ) (n : ℕ) → 0 < n → reading (n - 1) (behind at b) bs ≡ reading 0 (fold behind at (take n (b ∷ bs))) (drop n (b ∷ bs))
begun at b bs zero h = absurd (omega arith)
begun at b bs (suc n) h = rw sub-one (skip n (behind at b) bs)

pub after_gap : (at : Position) (text : List ℕ) (n : ℕ) → 0 < length text → 0 < n → item_of text ≡ item.Gap n →
    reading 0 at text ≡ reading 0 (fold behind at (take n text)) (drop n text)
after_gap at [] n some pos is = absurd (omega arith)
after_gap at (b ∷ bs) n some pos is =
    let rest : ℕ → Result (List Token) ProgramFault = λ len. reading (len - 1) (behind at b) bs in
    ap (λ i. read_item at i rest) is ∙ begun at b bs n pos

pub after_token : (at : Position) (text : List ℕ) (what : TokenKind) (n : ℕ) → 0 < length text → 0 < n → item_of text ≡ item.Token what n →
    reading 0 at text ≡ with_front (token_at at what) (reading 0 (fold behind at (take n text)) (drop n text))
after_token at [] what n some pos is = absurd (omega arith)
after_token at (b ∷ bs) what n some pos is =
    let rest : ℕ → Result (List Token) ProgramFault = λ len. reading (len - 1) (behind at b) bs in
    ap (λ i. read_item at i rest) is ∙ ap (with_front (token_at at what)) (begun at b bs n pos)

-- behind the tokens so far stands a fault
pub read_fault : (ts : List Token) (at : Position) (text : List ℕ) (code : ℕ) → 0 < length text → item_of text ≡ item.Fault code → fronts ts (reading 0 at text) ≡ Err (At code at.line at.column)
read_fault ts at [] code some is = absurd (omega arith)
read_fault ts at (b ∷ bs) code some is =
    let rest : ℕ → Result (List Token) ProgramFault = λ len. reading (len - 1) (behind at b) bs in
    ap (λ i. fronts ts (read_item at i rest)) is ∙ fronts-Err ts (At code at.line at.column)

-- or the end
pub read_end : (ts : List Token) (at : Position) (text : List ℕ) → length text ≡ 0 → fronts ts (reading 0 at text) ≡ Ok (ts ++ token_at at End ∷ [])
read_end ts at [] none = fronts-Ok ts (token_at at End ∷ [])
read_end ts at (b ∷ bs) none = absurd (omega arith)
