use Rattle.std.proofs.Common.{◌≡◌, ◌∙◌, List, All, None, Option, Some, ℕ, refl, sym, ap, subst, arith}
use Rattle.std.specs.Prelude.{slice_get, sum}
use Rattle.std.proofs.lemmas.Result.{IfOk-weaker}
use Rattle.rmt_config.specs.Rooms.{parts_of}
use Rattle.rmt_refine.specs.Units.{table_at}
use Rattle.rmt_verify.specs.TableKnown.{PartKnown}
use Rattle.rmt_verify.proofs.KnownLaws.{key_there, table_known}
use Rattle.rmt_verify.proofs.CellsToldLaws.{one_table}
use Rattle.rmt_verify.proofs.cells.node_holds.Goals as goal

-- what isn't there is not something
missing : {X Y : Type 0} (o : Option X) (x : X) → None ≡ o → o ≡ Some x → Y
missing o x none some = let both : None ≡ Some x = none ∙ some in absurd cc

pub returns-in_default : goal.returns-in_default
returns-in_default c = λ cells told. (
  λ yes t es at list. missing (table_at c.args.given.now.program.now c.args.node) t c.in_default.ensures at,
  λ held. refl,
)

pub returns-in_default-get : goal.returns-in_default-get
returns-in_default-get c = λ cells told. (
  λ yes t es at list. missing (slice_get c.args.given.now.entries.now c.args.node) es (sym c.in_default-get.ensures.item) list,
  λ held. refl,
)

pub overflow_cast-node : goal.overflow_cast-node
overflow_cast-node c =
    let low = c.requires.node in
    let few = c.requires.given.program.counts.nodes in
    record { fits = omega (arith, low, few) }

pub widths_of-requires : goal.widths_of-requires
widths_of-requires c = key_there c.args.given.now.program.now c.args.node c.in-Some.table.now c.requires.given.program (sym c.in-Some.ensures)

pub table_holds-requires : goal.table_holds-requires
table_holds-requires c =
    let p = c.args.given.now.program.now in
    let lists = c.args.given.now.entries.now in
    let config = c.args.given.now.config.now in
    let t = c.in-Some.table.now in
    let at : table_at p c.args.node ≡ Some t = sym c.in-Some.ensures in
    let list : slice_get lists c.args.node ≡ Some c.as_slice.result.now = c.in-Some-get.ensures.item ∙ ap Some (sym c.as_slice.ensures) in
    record {
      known = table_known p lists config c.args.node t c.as_slice.result.now c.in_ok-widths.widths c.requires.given.program c.requires.given.entries c.requires.given.formed at list c.in_ok-widths.ensures;
      parts = subst (λ (ws : List ℕ). All (PartKnown config t (sum ws)) (parts_of config c.args.node)) (sym c.in_ok-widths.ensures) (c.requires.known t at);
      told = c.requires.told;
    }

pub returns : goal.returns
returns c =
    let p = c.args.given.now.program.now in
    let lists = c.args.given.now.entries.now in
    let t = c.in-Some.table.now in
    let at : table_at p c.args.node ≡ Some t = sym c.in-Some.ensures in
    let list : slice_get lists c.args.node ≡ Some c.as_slice.result.now = c.in-Some-get.ensures.item ∙ ap Some (sym c.as_slice.ensures) in
    IfOk-weaker c.table_holds.result _ _ (λ b told cells are. one_table p c.args.given.now.config.now cells lists c.args.node t c.as_slice.result.now b at list (told cells are)) c.table_holds.ensures
