use Rattle.std.proofs.Common.{sym, subst}
use Rattle.rmt_update.specs.BookIndex.{AreApart}
use Rattle.rmt_update.proofs.ApartLaws.{apart}
use Rattle.rmt_update.proofs.book.Book.take_index.Goals as goal

pub index_of_book-requires : goal.index_of_book-requires
index_of_book-requires c = let r = c.requires in subst AreApart (sym c.as_slice.ensures.value) (apart r.0 r.1 r.2 c.args.self.now r.3)
