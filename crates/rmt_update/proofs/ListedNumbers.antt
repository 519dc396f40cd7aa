-- No two entries of a table that a configuration spells have one number.
use Rattle.std.proofs.Common.{◌≡◌, ◌≢◌, ℕ, List, get_or, map, true, eqb, sym, subst, arith}
use Rattle.std.specs.List.{IsDistinct}
use Rattle.std.proofs.Math.ListN.{get_or-map}
use Rattle.std.proofs.lemmas.Bool.Decides.{Decides-eqb}
use Rattle.std.proofs.lemmas.List.{length-map}
use Rattle.std.proofs.lemmas.Map.Made.{AllPairs-from_IsDistinct}
use Rattle.rmt_ast.specs.declared.entry.Entry.{Entry}
use Rattle.rmt_ast.specs.declared.names.TableName.{TableName}
use Rattle.rmt_config.specs.declared.config.Config.{Config}
use Rattle.rmt_config.specs.CellForm.{entries_are_numbered}
use Rattle.rmt_config.specs.NamesForm.{entries_by_cell}
use Rattle.rmt_book.specs.Seen.{HaveNumbers}
use Rattle.rmt_config.proofs.SpelledRanks.{listed-distinct, entries-numbered}

-- entries whose numbers differ
numbers-have : (es : List Entry) → IsDistinct eqb (map (λ (e : Entry). e.number) es) → HaveNumbers es
numbers-have es d i j e lt l =
    let f : Entry → ℕ = λ x. x.number in
    let pairs = AllPairs-from_IsDistinct Decides-eqb (map f es) d in
    let one = pairs i j (f e) lt (omega (arith, l, length-map es f)) in
    subst (λ a. a ≢ f (get_or es j e)) (get_or-map f es i e) (subst (λ b. get_or (map f es) i (f e) ≢ b) (get_or-map f es j e) one)

pub entries-have : (c : Config) (t : TableName) → entries_are_numbered c ≡ true → HaveNumbers (entries_by_cell c t)
entries-have c t h = numbers-have (entries_by_cell c t) (subst (IsDistinct eqb) (sym (entries-numbered c t)) (listed-distinct c t.node h))
