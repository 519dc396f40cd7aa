use Rattle.std.proofs.Common.{◌<◌, ℕ, List, length, subst, sym}
use Rattle.std.specs.Prelude.{All}
use Rattle.rmt_ast.specs.declared.deps.Edge.{Edge}
use Rattle.rmt_deps.proofs.Ends.{ends_below}
use Rattle.rmt_deps.proofs.level.push_deps.Goals as goal

pub push_ends-requires : goal.push_ends-requires
push_ends-requires c =
    subst (λ (es : List Edge). All (λ (e : Edge). e.to < length c.args.ends.now) es) (sym c.as_slice.ensures) (ends_below (length c.args.ends.now) c.args.deps.now.field c.requires.field)

pub push_ends-requires-2 : goal.push_ends-requires-2
push_ends-requires-2 c =
    subst (λ (n : ℕ). All (λ (e : Edge). e.to < n) c.as_slice-2.result.now) (sym c.push_ends.auto.ends)
    (subst (λ (es : List Edge). All (λ (e : Edge). e.to < length c.args.ends.now) es) (sym c.as_slice-2.ensures) (ends_below (length c.args.ends.now) c.args.deps.now.word c.requires.word))
