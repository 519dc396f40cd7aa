-- What files are left when some are written, one after another.
use Rattle.std.proofs.Common.{◌≡◌, ◌≢◌, ℕ, Bool, true, false, List, [], ◌∷◌, ◌++◌, Some, sym, refl, ap, ◌∙◌, subst, arith}
use Rattle.std.specs.Prelude.{IsTrue}
use Rattle.std.specs.List.{All}
use Rattle.std.specs.Str.{bytes_eq}
use Rattle.std.proofs.lemmas.List.Elements.{All-head, All-tail}
use Rattle.std.proofs.lemmas.List.Sums.{fold-append}
use Rattle.std.proofs.lemmas.Slice.Eq.{bytes_eq-Decides}
use Rattle.rmt_io.specs.Outside.{ShelfState, HasFile, KeepsFiles, OnlyWrote}
use Rattle.rmt_drive.specs.Files.{Files, Write, all_written, updated}
use Rattle.rmt_drive.specs.Ends.{AreSame, BrokenOff}
use Rattle.rmt_core.specs.Writing.{StoodUpTo, WroteAll}

-- ---- files

pub updated_same : (files : Files) (name bytes : List ℕ) → updated files name bytes name ≡ Some bytes
updated_same files name bytes = let same : bytes_eq name name ≡ true = (bytes_eq-Decides name name).1 refl in rw same refl

-- files with one more, or another one of its name, are those of which that one has the bytes and all others are the same
pub updated_as : (files after : Files) (name bytes : List ℕ) → after name ≡ Some bytes → ((other : List ℕ) → other ≢ name → after other ≡ files other) → AreSame after (updated files name bytes)
updated_as files after name bytes is others other = by (bytes_eq other name) refl
  where
    by : (b : Bool) → bytes_eq other name ≡ b → after other ≡ updated files name bytes other
    by true e = let same : other ≡ name = (bytes_eq-Decides other name).0 e in rw (same) (is ∙ sym (updated_same files name bytes))
    by false e = rw e (others other (λ same. let yes : bytes_eq other name ≡ true = (bytes_eq-Decides other name).1 same in cc))

pub updated_other : (files : Files) (name bytes other : List ℕ) → name ≢ other → updated files name bytes other ≡ files other
updated_other files name bytes other not = by (bytes_eq other name) refl
  where
    by : (b : Bool) → bytes_eq other name ≡ b → updated files name bytes other ≡ files other
    by true e = absurd (not (sym ((bytes_eq-Decides other name).0 e)))
    by false e = rw e refl

-- files that none of these writes are as before
pub others_stand : (files : Files) (writes : List Write) (name : List ℕ) → All (λ (w : Write). w.name ≢ name) writes → all_written files writes name ≡ files name
others_stand files [] name none = refl
others_stand files (w ∷ writes) name none =
    others_stand (updated files w.name w.bytes) writes name (All-tail (λ (x : Write). x.name ≢ name) w writes none)
    ∙ updated_other files w.name w.bytes name (All-head (λ (x : Write). x.name ≢ name) w writes none)

one_more : (files : Files) (writes : List Write) (w : Write) → all_written files (writes ++ (w ∷ [])) ≡ updated (all_written files writes) w.name w.bytes
one_more files writes w = fold-append (λ (f : Files) (x : Write). updated f x.name x.bytes) files writes (w ∷ [])

-- ---- shelves

pub wrote_none : (s : ShelfState) → WroteAll [] s s
wrote_none s = record { files = λ _ _. refl; tells = refl; stays_steady = λ h. h; reading = refl; writing = omega arith }

tells_still : {writes : List Write} {before after : ShelfState} → WroteAll writes before after → IsTrue before.tells → IsTrue after.tells
tells_still w tells = subst IsTrue (sym w.tells) tells

module _ (before mid after : ShelfState) (done : List Write) (wrote : WroteAll done before mid) where
  -- one file more was written
  pub wrote_more : (w : Write) → OnlyWrote w.name mid after → HasFile after w.name w.bytes → WroteAll (done ++ (w ∷ [])) before after
  wrote_more w only is = record {
    files = λ tells name.
        updated_as (all_written before.files done) after.files w.name w.bytes (is (subst IsTrue (sym only.tells) (tells_still wrote tells)))
        (λ other not. only.others (tells_still wrote tells) other not ∙ wrote.files tells other) name
        ∙ ap (λ (f : Files). f name) (sym (one_more before.files done w));
    tells = only.tells ∙ wrote.tells;
    stays_steady = λ h. only.stays_steady (wrote.stays_steady h);
    reading = only.reading ∙ wrote.reading;
    writing = omega (arith, wrote.writing, only.writing);
  }

  -- or was not, and nothing is told of it
  pub broken_off : (writes rest : List Write) (w : Write) → writes ≡ done ++ (w ∷ rest) → OnlyWrote w.name mid after → IsTrue before.tells → BrokenOff before.files after.files writes
  broken_off writes rest w is only tells = record {
    done = done;
    failed = w;
    rest = rest;
    writes_are = is;
    others = λ name not. only.others (tells_still wrote tells) name not ∙ wrote.files tells name;
  }

  -- or there was no memory for it
  pub stood_up_to : (writes rest : List Write) (w : Write) → writes ≡ done ++ (w ∷ rest) → KeepsFiles mid after → IsTrue before.tells → StoodUpTo before.files after.files writes
  stood_up_to writes rest w is keeps tells = record {
    done = done;
    next = w;
    rest = rest;
    writes_are = is;
    files = λ name. keeps (tells_still wrote tells) name ∙ wrote.files tells name;
  }
