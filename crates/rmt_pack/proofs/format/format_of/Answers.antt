use Rattle.std.proofs.Common.{◌≡◌, subst, sym}
use Rattle.rmt_ast.specs.declared.program.Kind.{Kind}
use Rattle.rmt_ast.specs.declared.program.Kind.TheVariants.{Exact}
use Rattle.rmt_pack.specs.declared.format.Format.{Format}
use Rattle.rmt_pack.specs.declared.format.Need.{Need}
use Rattle.rmt_pack.specs.Formats.{IsTaken, IsFormat, HasNeed, exact_format, need_of}
use Rattle.rmt_pack.proofs.FormatLaws.{exact_format-taken}
use Rattle.rmt_pack.proofs.format.format_of.Goals as goal

taken : (kind : Kind) (n : Need) (f : Format) → kind ≡ Exact → HasNeed kind n → f ≡ exact_format n → IsTaken n f
taken kind n f exact need is = subst (IsTaken n) (sym is) (exact_format-taken n (subst (λ k. HasNeed k n) exact need))

is_format : (kind : Kind) (n : Need) (f : Format) → kind ≡ Exact → HasNeed kind n → f ≡ exact_format n → IsFormat kind n f
is_format kind n f exact need is = subst (λ k. IsFormat k n f) (sym exact) (taken kind n f exact need is).format

pub returns-in-Exact-clause-format : goal.returns-in-Exact-clause-format
returns-in-Exact-clause-format c = is_format c.args.table.now.kind (need_of c.args.table.now c.args.key c.args.held) c.exact_format.result c.in-Exact.is c.requires c.exact_format.ensures

pub returns-in-Exact-clause-first : goal.returns-in-Exact-clause-first
returns-in-Exact-clause-first c = λ _. taken c.args.table.now.kind (need_of c.args.table.now c.args.key c.args.held) c.exact_format.result c.in-Exact.is c.requires c.exact_format.ensures
