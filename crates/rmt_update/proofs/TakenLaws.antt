-- A book from which its index is taken, or that gets one.
use Rattle.std.proofs.Common.{◌≡◌, List, Option, None, sym, subst}
use Rattle.std.specs.Prelude.{IfSome}
use Rattle.rmt_ast.specs.declared.entry.Entry.{Entry}
use Rattle.rmt_config.specs.declared.config.Config.{Config}
use Rattle.rmt_config.specs.RunCells.{RunCells}
use Rattle.rmt_update.specs.declared.book.Book.{Book}
use Rattle.rmt_update.specs.declared.book.book_index.BookIndex.{BookIndex}
use Rattle.rmt_update.specs.BookIndex.{IsBookIndex}
use Rattle.rmt_update.specs.BookStands.{BookStands}

-- a book stands for the same with another index, if that is one of its tables
pub with-index : (c : Config) (cells : RunCells) (lists : List (List Entry)) (b : Book) (o : Option BookIndex) → BookStands c cells lists b → IfSome o (IsBookIndex b.odd b.tables.items) → BookStands c cells lists (record b { index = o })
with-index c cells lists b o h is = record {
  formed = h.formed;
  names = h.names;
  version = h.version;
  seed = h.seed;
  tables = h.tables;
  numbers = h.numbers;
  readable = h.readable;
  lists = h.lists;
  index = is;
}

module _ (b taken : Book) (is : taken ≡ record b { index = None }) where
  -- it stands for what it did
  pub taken-stands : (c : Config) (cells : RunCells) (lists : List (List Entry)) → BookStands c cells lists b → BookStands c cells lists taken
  taken-stands c cells lists h = subst (BookStands c cells lists) (sym is) (with-index c cells lists b None h tt)

  -- and the index is that of its tables
  pub taken-index : (ix : BookIndex) → IsBookIndex b.odd b.tables.items ix → IsBookIndex taken.odd taken.tables.items ix
  taken-index ix h = subst (λ (d : Book). IsBookIndex d.odd d.tables.items ix) (sym is) h
