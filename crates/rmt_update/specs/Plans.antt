-- The words for a book with its index and for the plan of a commit, passed on by one name.
pub use Rattle.rmt_update.specs.BookIndex.{FindsCells, IsBookIndex}
pub use Rattle.rmt_update.specs.BookStands.{BookStands}
pub use Rattle.rmt_update.specs.ComeIndex.{HasPlaced, HasPlacedIn}
pub use Rattle.rmt_update.specs.Placing.{ArePlaced, IsPlacing}
pub use Rattle.rmt_update.specs.Planned.{HasLengths, MayChange, changed_lists}
