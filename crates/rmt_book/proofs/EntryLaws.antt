-- The entry that a kept cell tells is the one that the configuration spells there.
use Rattle.std.proofs.Common.{◌≡◌, ℕ, ◌-◌, ◌/◌, ◌^◌, ◌<◌, List, true, sum, sym, ap, ◌∙◌, subst, arith}
use Rattle.std.specs.Prelude.{if◌then◌else◌}
use Rattle.std.proofs.lemmas.Bool.{false≢true}
use Rattle.std.proofs.lemmas.Nat.{mod_below}
use Rattle.std.proofs.Math.Nat.{mod-eq_of_lt}
use Rattle.rmt_bits.specs.Bits.{number_of}
use Rattle.rmt_ast.specs.declared.program.Kind.{Kind}
use Rattle.rmt_ast.specs.declared.program.Kind.TheVariants as kind
use Rattle.rmt_ast.specs.declared.entry.Entry.{Entry}
use Rattle.rmt_ast.specs.declared.names.TableName.{TableName}
use Rattle.rmt_config.specs.declared.config.Config.{Config}
use Rattle.rmt_config.specs.declared.config.Stage.{Stage}
use Rattle.rmt_config.specs.declared.config.SlotUnit.{SlotUnit}
use Rattle.rmt_config.specs.declared.config.CellNumber.{CellNumber}
use Rattle.rmt_config.specs.declared.config.Memory.{Memory}
use Rattle.rmt_config.specs.declared.config.Memory.TheVariants.{Without, Exact, Ternary}
use Rattle.rmt_config.specs.Cells.{code_of, content_of}
use Rattle.rmt_config.specs.LaneForm.{bits_of_lanes}
use Rattle.rmt_config.specs.NamesForm.{args_of_data, entry_in, held_by, is_of_kind, params_in, rank_in, tests_of_key}
use Rattle.rmt_config.specs.PartStands.{PartStands}
use Rattle.rmt_config.specs.Rooms.{PartAt}
use Rattle.rmt_config.specs.RunCells.{own_content, written_mask}
use Rattle.rmt_config.proofs.SpelledParts.{held-is}
use Rattle.rmt_book.specs.declared.kept.Kept.{Kept}
use Rattle.rmt_book.specs.Kept.{IsKept}
use Rattle.rmt_book.specs.Told.{is_whole, told_entry}

-- a head is a byte
head-small : (stage : Stage) (s : SlotUnit) (m : Memory) (n : ℕ) → (content_of stage (record s { memory = m }) n).head < 256
head-small stage s Without n = omega arith
head-small stage s (Exact k p d w ks rs cs) n = mod_below _ 256 (omega arith)
head-small stage s (Ternary d ks rs cs) n = mod_below _ 256 (omega arith)

code-is : (head code : ℕ) → head < 256 → code ≡ head / 8 → code ≡ code_of head
code-is head code lt is = is ∙ sym (mod-eq_of_lt (let l : head / 8 < 32 = omega (arith, lt) in l))

-- the mask that is told of a key of a kind
mask-told : (k : Kind) (m : Memory) (bits total x : ℕ) (mask : List ℕ) → is_of_kind k m ≡ true → total ≡ bits → written_mask bits m mask ≡ x
    → (if is_whole k then 2 ^ total - 1 else number_of mask) ≡ x
mask-told kind.Keyless m bits total x mask of same is = absurd (false≢true of)
mask-told kind.Exact Without bits total x mask of same is = absurd (false≢true of)
mask-told kind.Exact (Exact k p d w ks rs cs) bits total x mask of same is = ap (λ n. 2 ^ n - 1) same ∙ is
mask-told kind.Exact (Ternary d ks rs cs) bits total x mask of same is = absurd (false≢true of)
mask-told kind.Prefix Without bits total x mask of same is = absurd (false≢true of)
mask-told kind.Prefix (Exact k p d w ks rs cs) bits total x mask of same is = absurd (false≢true of)
mask-told kind.Prefix (Ternary d ks rs cs) bits total x mask of same is = is
mask-told kind.Ternary Without bits total x mask of same is = absurd (false≢true of)
mask-told kind.Ternary (Exact k p d w ks rs cs) bits total x mask of same is = absurd (false≢true of)
mask-told kind.Ternary (Ternary d ks rs cs) bits total x mask of same is = is

abbrev made : TableName → ℕ → ℕ → ℕ → ℕ → ℕ → ℕ → ℕ → Entry
made t first number key mask rank code held = record {
  table = t.node;
  number = number;
  tests = tests_of_key t.keys key mask;
  rank = rank;
  action = code - first;
  args = args_of_data (params_in t (code - first)) held;
}

-- of a part of a table, whose cell was kept with the rank of its entry
pub entry-is : (c : Config) (t : TableName) (p : PartAt) (n : CellNumber) (k : Kept) → PartStands c p → is_of_kind t.kind p.slot.memory ≡ true → sum t.keys ≡ bits_of_lanes p.slot.keys
    → IsKept (bits_of_lanes p.slot.keys) p.slot.memory (own_content c p.stage p.place n.cell) n k → k.rank ≡ rank_in t.kind t (held_by c p n).mask n.number
    → told_entry t p.first k ≡ entry_in c t p n
entry-is c t p n k stands of same kept ranked =
    let x = own_content c p.stage p.place n.cell in
    let small : x.head < 256 = subst (λ h. h < 256) (sym (ap (λ y. y.head) (held-is c p stands n.cell))) (head-small stands.stage p.slot p.slot.memory n.cell) in
    let mask = mask-told t.kind p.slot.memory (bits_of_lanes p.slot.keys) (sum t.keys) x.mask k.mask.items of same kept.mask in
    let code = code-is x.head k.code small kept.code in
    ap (λ a. made t p.first a (number_of k.key.items) (if is_whole t.kind then 2 ^ sum t.keys - 1 else number_of k.mask.items) k.rank k.code (number_of k.held.items)) kept.number
    ∙ ap (λ a. made t p.first n.number a (if is_whole t.kind then 2 ^ sum t.keys - 1 else number_of k.mask.items) k.rank k.code (number_of k.held.items)) kept.key
    ∙ ap (λ a. made t p.first n.number x.key a k.rank k.code (number_of k.held.items)) mask
    ∙ ap (λ a. made t p.first n.number x.key x.mask a k.code (number_of k.held.items)) ranked
    ∙ ap (λ a. made t p.first n.number x.key x.mask (rank_in t.kind t x.mask n.number) a (number_of k.held.items)) code
    ∙ ap (λ a. made t p.first n.number x.key x.mask (rank_in t.kind t x.mask n.number) (code_of x.head) a) kept.held
