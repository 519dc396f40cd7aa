-- Rows that are added one after another.
use Rattle.std.proofs.Common.{◌≡◌, cond, eqb, nat_lt, Bool, true, false, ℕ, suc, ◌+◌, ◌≤◌, List, [], ◌∷◌, ◌++◌, length, map, take, Some, refl, sym, ap, subst, ◌∙◌, append_assoc, arith}
use Rattle.std.specs.Prelude.{slice_get}
use Rattle.std.specs.List.{filter}
use Rattle.std.proofs.lemmas.List.{append-nil, length-append, length-map, length-take, map-append, take_all}
use Rattle.std.proofs.lemmas.List.Elements.{filter-append}
use Rattle.std.proofs.lemmas.Bool.{eqb-true, ltb-true}
use Rattle.rmt_ptcam.specs.Types.{ParserConfig, ParserEntry, TailOf}
use Rattle.rmt_config.specs.Parser.{tail_of}
use Rattle.rmt_ptcam.specs.Adding.{Adds}
use Rattle.rmt_ptcam.specs.Joining.{Row, entries_in, numbered, rows_of, tails_in}
use Rattle.rmt_ptcam.proofs.FormedRows.{entries_of_rows, row_at}
use Rattle.rmt_bits.proofs.ListLaws.{take-slice_get, filter-short}

pub tails_in-append : (n : ℕ) (xs ys : List Row) → tails_in n (xs ++ ys) ≡ tails_in n xs ++ tails_in (n + length xs) ys
tails_in-append n [] ys = let e : n ≡ n + 0 = omega arith in ap (λ k. tails_in k ys) e
tails_in-append n (x ∷ xs) ys =
    let e : n + 1 + length xs ≡ n + length (x ∷ xs) = omega arith in
    ap (λ (ts : List TailOf). numbered n x.tail ++ ts) (tails_in-append (n + 1) xs ys)
    ∙ sym (append_assoc (numbered n x.tail) (tails_in (n + 1) xs) (tails_in (n + 1 + length xs) ys))
    ∙ ap (λ k. (numbered n x.tail ++ tails_in (n + 1) xs) ++ tails_in k ys) e

abbrev entry_of_row : Row → ParserEntry
entry_of_row x = x.entry

-- rows behind rows
pub adds_more : (xs ys : List Row) (es fs gs : List ParserEntry) (ts us vs : List TailOf) → Adds xs es fs ts us → Adds ys fs gs us vs → Adds (xs ++ ys) es gs ts vs
adds_more xs ys es fs gs ts us vs one two = record {
  entries = two.entries ∙ ap (λ (l : List ParserEntry). l ++ map entry_of_row ys) one.entries ∙ append_assoc es (map entry_of_row xs) (map entry_of_row ys)
      ∙ ap (λ (l : List ParserEntry). es ++ l) (sym (map-append entry_of_row xs ys));
  tails = let long : length fs ≡ length es + length xs = ap length one.entries ∙ length-append es (map entry_of_row xs) ∙ ap (λ k. length es + k) (length-map xs entry_of_row) in
      two.tails ∙ ap (λ (l : List TailOf). l ++ tails_in (length fs) ys) one.tails ∙ append_assoc ts (tails_in (length es) xs) (tails_in (length fs) ys)
      ∙ ap (λ k. ts ++ (tails_in (length es) xs ++ tails_in k ys)) long ∙ ap (λ (l : List TailOf). ts ++ l) (sym (tails_in-append (length es) xs ys));
}

pub length_added : (xs : List Row) (es fs : List ParserEntry) (ts us : List TailOf) → Adds xs es fs ts us → length fs ≡ length es + length xs
length_added xs es fs ts us one = ap length one.entries ∙ length-append es (map entry_of_row xs) ∙ ap (λ k. length es + k) (length-map xs entry_of_row)

-- the row of an entry
pub row_of : (parser : ParserConfig) (n : ℕ) (e : ParserEntry) → slice_get parser.entries n ≡ Some e → slice_get (rows_of parser) n ≡ Some (record { entry = e; tail = tail_of parser n })
row_of parser n e there = let same : 0 + n ≡ n = omega arith in row_at parser 0 n parser.entries e there ∙ ap (λ k. Some (record { entry = e; tail = tail_of parser k })) same

-- ---- one row more

module _ (es fs gs : List ParserEntry) (ts us vs : List TailOf) where
  rows_next : (p : Row → Bool) (number : ℕ) (rows : List Row) (x : Row) (b : Bool) → slice_get rows number ≡ Some x → p x ≡ b → filter p (take (number + 1) rows) ≡ filter p (take number rows) ++ cond b (x ∷ []) []
  rows_next p number rows x b there is =
      ap (filter p) (take-slice_get rows number x there) ∙ filter-append p (take number rows) (x ∷ []) ∙ ap (λ (t : Bool). filter p (take number rows) ++ cond t (x ∷ []) []) is

  -- a changed row that passes
  pub added_own : (change : Row → Row) (p : Row → Bool) (rows : List Row) (number : ℕ) (x y : Row) → slice_get rows number ≡ Some x → p x ≡ true → change x ≡ y
      → Adds (map change (filter p (take number rows))) es fs ts us → Adds (y ∷ []) fs gs us vs → Adds (map change (filter p (take (number + 1) rows))) es gs ts vs
  added_own change p rows number x y there own changed so_far added =
      let more : map change (filter p (take (number + 1) rows)) ≡ map change (filter p (take number rows)) ++ y ∷ [] =
      ap (map change) (rows_next p number rows x true there own) ∙ map-append change (filter p (take number rows)) (x ∷ []) ∙ ap (λ z. map change (filter p (take number rows)) ++ z ∷ []) changed in
      subst (λ (l : List Row). Adds l es gs ts vs) (sym more) (adds_more (map change (filter p (take number rows))) (y ∷ []) es fs gs ts us vs so_far added)

  -- and one that doesn't
  pub added_not : (change : Row → Row) (p : Row → Bool) (rows : List Row) (number : ℕ) (x : Row) → slice_get rows number ≡ Some x → p x ≡ false
      → Adds (map change (filter p (take number rows))) es fs ts us → Adds (map change (filter p (take (number + 1) rows))) es fs ts us
  added_not change p rows number x there other so_far =
      subst (λ (l : List Row). Adds (map change l) es fs ts us) (sym (rows_next p number rows x false there other ∙ append-nil (filter p (take number rows)))) so_far

-- ---- how many

pub few_own : (change : Row → Row) (p : Row → Bool) (n : ℕ) (xs : List Row) → length (map change (filter p (take n xs))) ≤ n
few_own change p n xs =
    let all = length-map (filter p (take n xs)) change in
    let own = filter-short p (take n xs) in
    let some = length-take n xs in
    omega (arith, all, own, some)

pub adds_at : (xs ys : List Row) (es fs gs : List ParserEntry) (ts us vs : List TailOf) → xs ≡ ys → gs ≡ fs → vs ≡ us → Adds xs es fs ts us → Adds ys es gs ts vs
adds_at xs ys es fs gs ts us vs same one two is =
    subst (λ (l : List Row). Adds l es gs ts vs) same (subst (λ (l : List TailOf). Adds xs es gs ts l) (sym two) (subst (λ (l : List ParserEntry). Adds xs es l ts us) (sym one) is))

pub length_rows : (parser : ParserConfig) → length (rows_of parser) ≡ length parser.entries
length_rows parser = sym (length-map (rows_of parser) entry_of_row) ∙ ap length (entries_of_rows parser 0 parser.entries)

pub all_rows : (parser : ParserConfig) (n : ℕ) → length parser.entries ≤ n → take n (rows_of parser) ≡ rows_of parser
all_rows parser n le = let long = length_rows parser in take_all n (rows_of parser) (omega (arith, long, le))

-- the entries before a state and those of it are among all
pub numbers_within : (state : ℕ) (es : List ParserEntry) → length (filter (λ (e : ParserEntry). nat_lt e.state state) es) + length (entries_in state es) ≤ length es
numbers_within state [] = omega arith
numbers_within state (e ∷ es) = by (nat_lt e.state state) (eqb e.state state) refl refl (numbers_within state es)
  where
    by : (a b : Bool) → nat_lt e.state state ≡ a → eqb e.state state ≡ b → length (filter (λ (x : ParserEntry). nat_lt x.state state) es) + length (entries_in state es) ≤ length es
        → length (cond a (e ∷ filter (λ (x : ParserEntry). nat_lt x.state state) es) (filter (λ (x : ParserEntry). nat_lt x.state state) es)) + length (cond b (e ∷ entries_in state es) (entries_in state es)) ≤ suc (length es)
    by true true lt same rest = let a = ltb-true e.state state lt in let b = eqb-true e.state state same in absurd (omega (arith, a, b))
    by true false lt same rest = omega (arith, rest)
    by false true lt same rest = omega (arith, rest)
    by false false lt same rest = omega (arith, rest)
