use Rattle.std.proofs.Common.{◌≡◌, ◌≤◌, ℕ, List, [], Option, option_map, unwrap_or, sym, ap, ◌∙◌, subst}
use Rattle.std.specs.Prelude.{All, IfOk}
use Rattle.rmt_ast.specs.declared.names.ActionName.{ActionName}
use Rattle.rmt_bits.specs.Bits.{number_of}
use Rattle.rmt_config.specs.NamesForm.{args_of_data, params_in}
use Rattle.rmt_book.proofs.NamedLaws.{params-at, params-low}
use Rattle.rmt_book.proofs.told.args_told.Goals as goal

pub args_of-requires-clause-widths : goal.args_of-requires-clause-widths
args_of-requires-clause-widths c =
    subst (λ (ws : List ℕ). All (λ w. w ≤ 128) ws) (sym c.as_slice.ensures) (params-low c.args.table.now c.args.action c.in-Some.name.now c.requires.formed c.in-Some.ensures.item)

pub returns-in-Some : goal.returns-in-Some
returns-in-Some c =
    let is : c.as_slice.result.now ≡ params_in c.args.table.now c.args.action =
    c.as_slice.ensures ∙ sym (params-at c.args.table.now c.args.action ∙ ap (λ (o : Option ActionName). unwrap_or (option_map (λ (a : ActionName). a.params) o) []) c.in-Some.ensures.item) in
    subst (λ (ws : List ℕ). IfOk c.args_of.result (λ args. args ≡ args_of_data ws (number_of c.args.held.now))) is c.args_of.ensures

pub returns-in-None : goal.returns-in-None
returns-in-None c =
    let is : params_in c.args.table.now c.args.action ≡ [] =
    params-at c.args.table.now c.args.action ∙ ap (λ (o : Option ActionName). unwrap_or (option_map (λ (a : ActionName). a.params) o) []) c.in-None.ensures.item in
    c.new.ensures ∙ sym (ap (λ (ws : List ℕ). args_of_data ws (number_of c.args.held.now)) is)
