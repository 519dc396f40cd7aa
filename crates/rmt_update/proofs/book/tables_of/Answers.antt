use Rattle.std.proofs.Common.{◌≡◌, ◌++◌, ◌∷◌, List, [], Vec, vec_len, length, refl, sym, ap, ◌∙◌, subst, arith}
use Rattle.std.specs.List.{AllZip}
use Rattle.std.specs.Global.{Global}
use Rattle.std.proofs.lemmas.Iterator.{YieldsList}
use Rattle.std.specs.Vec.Iter.{into_iter_items, into_iter_len, into_iter_steps}
use Rattle.std.proofs.lemmas.Iterator.Adapters.{YieldsList-from_vec}
use Rattle.std.proofs.lemmas.Iterator.Consumers.{YieldsList-end, YieldsList-turn}
use Rattle.std.proofs.lemmas.Slice.Zip.{all_zipped_more}
use Rattle.rmt_ast.specs.declared.names.TableName.{TableName}
use Rattle.rmt_book.specs.declared.table.TableCells.{TableCells}
use Rattle.rmt_book.specs.Listed.{IsTable}
use Rattle.rmt_update.proofs.BookLaws.{TableFacts, named-facts}
use Rattle.rmt_book.proofs.OrderedLaws.{map-same}
use Rattle.rmt_update.proofs.book.tables_of.Goals as goal
use Rattle.rmt_update.proofs.book.tables_of.Goals.{In-Some}

-- all names are gone through
goes : {s : _} (all : List TableName) (v : Vec TableName Global) → into_iter_items s ≡ v.items → into_iter_len s ≡ vec_len v → v.items ≡ all → YieldsList (into_iter_steps {X = TableName} {Z = Global}) (λ y. y) s all
goes all v items len same = YieldsList-from_vec all (items ∙ same) (let long = ap (λ (ts : List TableName). length ts) same in let ok = v.ok.0 in omega (arith, len, ok, long))

-- what is known of the name at hand
facts : (c : In-Some) → TableFacts c.args.config.now c.in-Some.name
facts c =
    let gives = c.into_iter-name-iterator.ensures.into_iter_gives in
    let k = YieldsList-turn (goes c.args.names.tables c.into_vec-name-items.result gives.0 gives.1 c.into_vec-name-items.ensures) c.loop-name.yielded c.loop-name.name-iterator c.loop-name.yielded_by
    c.next.result c.next.new.self c.in-Some.name c.in-Some.is c.next.ensures.steps in
    named-facts c.args.config.now c.args.names c.requires.formed c.requires.named (length c.loop-name.yielded) c.in-Some.name k.0 k.1

pub cells_of-requires-clause-formed : goal.cells_of-requires-clause-formed
cells_of-requires-clause-formed c = (facts (goal.at.cells_of-requires-clause-formed c).In-Some).formed

pub cells_of-requires-clause-has : goal.cells_of-requires-clause-has
cells_of-requires-clause-has c = (facts (goal.at.cells_of-requires-clause-has c).In-Some).parts

pub cells_of-requires-clause-bits : goal.cells_of-requires-clause-bits
cells_of-requires-clause-bits c = (facts (goal.at.cells_of-requires-clause-bits c).In-Some).bits

pub loop-name-preserved : goal.loop-name-preserved
loop-name-preserved c =
    let config = c.args.config.now in
    let table : TableCells = record { name = c.in-Some.name; parts = c.in_ok-parts.parts } in
    let grown : c.push.new.self.items ≡ c.loop-name.tables.items ++ table ∷ [] = c.in_ok-push.ensures.items in
    subst (λ (ts : List TableCells). AllZip (IsTable config) (c.loop-name.yielded ++ c.in-Some.name ∷ []) ts) (sym grown)
    (all_zipped_more (IsTable config) c.loop-name.yielded c.loop-name.tables.items c.in-Some.name table c.loop-name.invariant (record { name = refl; parts = c.in_ok-parts.ensures }))

pub returns : goal.returns
returns c =
    let gives = c.into_iter-name-iterator.ensures.into_iter_gives in
    let all = YieldsList-end (goes c.args.names.tables c.into_vec-name-items.result gives.0 gives.1 c.into_vec-name-items.ensures) c.loop-name.yielded c.loop-name.name-iterator c.loop-name.yielded_by
    c.next.result c.next.new.self c.in-None.is c.next.ensures.steps in
    subst (λ (ts : List TableName). AllZip (IsTable c.args.config.now) ts c.loop-name.tables.items) (sym (map-same c.loop-name.yielded) ∙ all.0) c.loop-name.invariant
