-- A book stands for the next version behind a commit that moves no cell.
use Rattle.std.proofs.Common.{◌≡◌, ℕ, zero, suc, ◌+◌, ◌-◌, ◌%◌, ◌<◌, not, eqb, List, [], ◌∷◌, ◌++◌, get_or, map, Some, refl, sym, ap, ◌∙◌, subst, arith}
use Rattle.std.specs.Prelude.{IfSome, slice_get}
use Rattle.std.specs.List.{AllZip}
use Rattle.std.proofs.lemmas.Option.{slice_get-get_or}
use Rattle.rmt_bits.proofs.AllLaws.{All-slice_get}
use Rattle.rmt_ast.specs.declared.entry.Entry.{Entry}
use Rattle.rmt_ast.specs.declared.names.Names.{Names}
use Rattle.rmt_ast.specs.declared.names.TableName.{TableName}
use Rattle.rmt_ast.specs.NameRules.{table_is_formed}
use Rattle.rmt_config.specs.declared.config.Config.{Config}
use Rattle.rmt_config.specs.Commits.{settled}
use Rattle.rmt_config.specs.RunCells.{RunCells, with_version}
use Rattle.rmt_update.specs.declared.book.Book.{Book}
use Rattle.rmt_update.specs.declared.book.placing.Coming.{Coming}
use Rattle.rmt_book.specs.declared.table.TableCells.{TableCells}
use Rattle.rmt_lists.specs.declared.lists.Changes.{Changes}
use Rattle.rmt_update.specs.BookIndex.{IsBookIndex}
use Rattle.rmt_update.specs.BookStands.{BookStands}
use Rattle.rmt_update.specs.Placing.{ArePlaced}
use Rattle.rmt_update.specs.Planned.{MayChange, changed_lists}
use Rattle.rmt_book.specs.Seen.{IsReadable, entries_seen}
use Rattle.rmt_update.specs.Turning.{AreNext, IsSameTable}
use Rattle.rmt_update.proofs.CellsFound.{found-node, nodes-rise}
use Rattle.rmt_update.proofs.NextLists.{lists-next, numbers-here}
use Rattle.rmt_update.proofs.NextNumbers.{numbers-next}
use Rattle.rmt_update.proofs.NextOrder.{order-here}
use Rattle.rmt_update.proofs.NextTables.{tables-next}
use Rattle.rmt_update.proofs.ZipLaws.{zip-right}

same-named : (ts us : List TableCells) → AllZip IsSameTable ts us → map (λ (t : TableCells). t.name) ts ≡ map (λ (t : TableCells). t.name) us
same-named [] [] zip = refl
same-named [] (u ∷ us) zip = absurd zip
same-named (t ∷ ts) [] zip = absurd zip
same-named (t ∷ ts) (u ∷ us) zip = ap (λ (n : TableName). n ∷ map (λ (t : TableCells). t.name) ts) (sym zip.0.0) ∙ ap (λ ns. u.name ∷ ns) (same-named ts us zip.1)

turns : (v : ℕ) → not (eqb (v % 2) 1) ≡ eqb ((v + 1) % 2) 1
turns v = by (v % 2) ((v + 1) % 2) (omega arith) (omega arith)
  where
    by : (r s : ℕ) → r < 2 → s ≡ 1 - r → not (eqb r 1) ≡ eqb s 1
    by zero s lt e = ap (λ n. eqb n 1) (sym e)
    by (suc zero) s lt e = ap (λ n. eqb n 1) (sym e)
    by (suc (suc r)) s lt e = absurd (omega (arith, lt))

pub book-next : (c : Config) (names : Names) (cells : RunCells) (lists : List (List Entry)) (ch : Changes) (b d : Book) (xs : List Coming) (stands : BookStands c cells lists b) (named : c.names ≡ Some names)
    (may : MayChange c names cells lists ch) (placed : ArePlaced c names cells lists ch b.odd b.tables.items xs) → AreNext b.odd ch.gone xs b.tables.items d.tables.items → d.odd ≡ not b.odd → d.seed ≡ b.seed → d.nodes ≡ b.nodes → IfSome d.index (IsBookIndex d.odd d.tables.items)
    → BookStands c (with_version (settled c names cells lists (placed.stay ++ placed.coming)) cells.seed) (changed_lists lists ch) d
book-next c names cells lists ch b d xs stands named may placed next odd seed nodes index =
    let us = d.tables.items in
    record {
      formed = stands.formed;
      names = stands.names ∙ ap (λ (ns : List TableName). Some (record { tables = ns })) (same-named b.tables.items us next.same);
      version = odd ∙ ap not stands.version ∙ turns cells.version;
      seed = seed ∙ stands.seed;
      tables = tables-next c names cells lists ch b xs stands named placed us next;
      numbers = numbers-next c names cells lists ch b xs stands named may placed;
      readable = λ i e lt.
          let u = get_or us i e in
          let at_u : slice_get us i ≡ Some u = slice_get-get_or us i e lt in
          let h = zip-right IsSameTable b.tables.items us i u next.same at_u in
          let found = found-node b.tables.items i h.0 (nodes-rise c cells lists b stands) h.1 in
          let own = All-slice_get (IsReadable b.odd) b.tables.items i h.0 stands.readable h.1 in
          subst (λ o. IsReadable o u) (sym odd) (record {
            formed = ap table_is_formed h.2.0 ∙ own.formed;
            numbers = numbers-here c names cells lists ch b xs stands named may placed us next i h.0 u h.1 at_u h.2 found;
            order = order-here c names cells lists ch b xs stands named may placed us next i h.0 u h.1 at_u h.2 found;
          });
      lists = lists-next c names cells lists ch b xs stands named may placed us next ∙ ap (λ n. entries_seen (not b.odd) us n) (sym nodes) ∙ ap (λ o. entries_seen o us d.nodes) (sym odd);
      index = index;
    }
