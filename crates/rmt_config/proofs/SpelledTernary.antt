-- A ternary table is named as its parts are filled, by its ranks and numbers.
use Rattle.std.proofs.Common.{◌≡◌, length, map, Bool, true, false, ◌&&◌, leb, eqb, refl, sym, ap, ◌∙◌, subst}
use Rattle.std.specs.Prelude.{All, IsTrue}
use Rattle.std.specs.List.{IsDistinct, list_all}
use Rattle.std.specs.Str.{bytes_eq}
use Rattle.std.proofs.lemmas.Bool.{and_parts}
use Rattle.std.proofs.Math.Bool.{and-true}
use Rattle.rmt_bits.proofs.FunctionLaws.{bytes_eq-true}
use Rattle.rmt_ast.specs.declared.names.RankOf.{RankOf}
use Rattle.rmt_ast.specs.declared.names.TableName.{TableName}
use Rattle.rmt_ast.specs.declared.program.Kind.{Kind}
use Rattle.rmt_ast.specs.declared.program.Kind.TheVariants as kind
use Rattle.rmt_ast.specs.Naming.{rank_of, stands_first}
use Rattle.rmt_config.specs.Types.{Config, Memory}
use Rattle.rmt_config.specs.declared.config.Memory.TheVariants.{Without, Exact, Ternary}
use Rattle.rmt_config.specs.CellForm.{entries_are_numbered}
use Rattle.rmt_config.specs.TableForm.{is_ternary}
use Rattle.rmt_config.specs.Rooms.{PartAt, parts_of}
use Rattle.rmt_config.specs.PartsTold.{listed_numbers}
use Rattle.rmt_config.specs.PartStands.{PartStands}
use Rattle.rmt_config.specs.NamesForm.{each_later, each_part, entries_by_cell, has_keys_once, has_masks, has_order, has_parts, has_ranks, is_filled_so, is_of_kind, stands_in_candidates}
use Rattle.rmt_config.proofs.SpelledRanks.{entries-count, later-map, listed-distinct, rank_with, ranks-told, told-all}
use Rattle.rmt_config.proofs.SpelledRows.{all-stand}

-- what a table's entries keep, where its kind is one
abbrev pub filled_as : Config → TableName → Kind → Bool
filled_as c t k =
    has_masks c k t && has_ranks c k t
    && (leb (length (entries_by_cell c t)) t.size && has_keys_once k (entries_by_cell c t) && has_order k (entries_by_cell c t) && each_part c (stands_in_candidates c) t)

pub ternary-memory : (m : Memory) → is_of_kind kind.Ternary m ≡ true → is_ternary m ≡ true
ternary-memory Without e = e
ternary-memory (Exact k p d w ks rs cs) e = e
ternary-memory (Ternary d ks rs cs) e = e

pub of-kind : (c : Config) (t : TableName) (k : Kind) → t.kind ≡ k → has_parts c t ≡ true → list_all (λ (p : PartAt). is_of_kind k p.slot.memory) (parts_of c t.node) ≡ true
of-kind c t k is h = sym (ap (λ k. list_all (λ (p : PartAt). is_of_kind k p.slot.memory) (parts_of c t.node)) is) ∙ (and_parts _ _ h).1

shape : (r n o o' s : Bool) → s ≡ true → (r ≡ true → o ≡ o') → ((true && r) && (n && true && o && s)) ≡ ((r && n) && o')
shape false n o o' s stand same = refl
shape true false o o' s stand same = refl
shape true true o o' s stand same = ap (λ b. o && b) stand ∙ and-true o ∙ same refl

pub ternary-answer : (c : Config) (t : TableName) → t.kind ≡ kind.Ternary → IsTrue (entries_are_numbered c) → has_parts c t ≡ true → All (PartStands c) (parts_of c t.node)
    → is_filled_so c t ≡ (bytes_eq (map (λ (r : RankOf). r.number) t.ranks) (listed_numbers (parts_of c t.node)) && leb (length (listed_numbers (parts_of c t.node))) t.size && each_later stands_first t.ranks)
ternary-answer c t is numbered parts stand =
    let es = entries_by_cell c t in
    let ns = listed_numbers (parts_of c t.node) in
    let told = bytes_eq (map (λ (r : RankOf). r.number) t.ranks) ns in
    ap (filled_as c t) is
    ∙ shape told (leb (length es) t.size) (has_order kind.Ternary es) (each_later stands_first t.ranks) (each_part c (stands_in_candidates c) t)
    (all-stand c (is_of_kind kind.Ternary) ternary-memory (parts_of c t.node) stand (of-kind c t kind.Ternary is parts))
    (λ e.
    let same = bytes_eq-true (map (λ (r : RankOf). r.number) t.ranks) ns e in
    later-map stands_first rank_of es
    ∙ ap (each_later stands_first)
    (ranks-told c t is ∙ ap (map (rank_with t.ranks)) (sym same) ∙ told-all t.ranks (subst (IsDistinct eqb) (sym same) (listed-distinct c t.node numbered))))
    ∙ ap (λ n. told && leb n t.size && each_later stands_first t.ranks) (entries-count c t)
