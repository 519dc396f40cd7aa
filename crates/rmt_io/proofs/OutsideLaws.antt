-- What calls leave of the outside, one after another.
use Rattle.std.proofs.Common.{inl, inr, ⊎_elim, ℕ, ◌≤◌, [], ◌++◌, sym, refl, subst, ap, ◌∙◌, append_assoc, append-nil, arith}
use Rattle.std.specs.Prelude.{IsTrue}
use Rattle.rmt_io.specs.Faults.{Rose}
use Rattle.rmt_io.specs.Outside.{ShelfState, SinkState, OnlyRead, OnlyPrinted, ReadingFailed, WritingFailed, PrintingFailed}

-- a fault that is counted after others is one since before them
pub rose_later : (before mid after : ℕ) → before ≤ mid → Rose mid after → Rose before after
rose_later before mid after le rose = ⊎_elim (λ less. inl (omega arith)) (λ last. inr last) rose

-- where a call did nothing
pub only_read_refl : (s : ShelfState) → OnlyRead s s
only_read_refl s = record { files = λ name. refl; tells = refl; stays_steady = λ h. h; reading = omega arith; writing = refl }

-- one reading after another
pub only_read_trans : {a b c : ShelfState} → OnlyRead a b → OnlyRead b c → OnlyRead a c
only_read_trans {a = a} {b = b} {c = c} r q = record {
  files = λ name. q.files name ∙ r.files name;
  tells = q.tells ∙ r.tells;
  stays_steady = λ h. q.stays_steady (r.stays_steady h);
  reading = omega (arith, r.reading, q.reading);
  writing = q.writing ∙ r.writing;
}

-- a shelf that tells its files still does after a reading
pub tells_later : {a b : ShelfState} → OnlyRead a b → IsTrue a.tells → IsTrue b.tells
tells_later r told = subst IsTrue (sym r.tells) told

-- a fault of reading after another reading
pub reading_failed_later : {a b : ShelfState} (c : ShelfState) → OnlyRead a b → ReadingFailed b c → ReadingFailed a c
reading_failed_later {a = a} {b = b} c r rose = rose_later a.reading_faults b.reading_faults c.reading_faults r.reading rose

-- a fault of writing after a reading
pub writing_failed_later : {a b : ShelfState} (c : ShelfState) → OnlyRead a b → WritingFailed b c → WritingFailed a c
writing_failed_later c r rose = subst (λ n. Rose n c.writing_faults) r.writing rose

-- where nothing was printed
pub only_printed_refl : (s : SinkState) → OnlyPrinted s s
only_printed_refl s = record { tells = refl; grows = λ _. ([], sym (append-nil s.bytes)); counts = omega arith }

-- one printing after another
pub only_printed_trans : {a b c : SinkState} → OnlyPrinted a b → OnlyPrinted b c → OnlyPrinted a c
only_printed_trans {a = a} {b = b} {c = c} p q = record {
  tells = q.tells ∙ p.tells;
  grows = λ told.
      let first = p.grows told in
      let then = q.grows (subst IsTrue (sym p.tells) told) in
      (first.0 ++ then.0, then.1 ∙ (ap (λ l. l ++ then.0) first.1 ∙ append_assoc a.bytes first.0 then.0));
  counts = omega (arith, p.counts, q.counts);
}

-- a fault of printing after another printing
pub printing_failed_later : {a b : SinkState} (c : SinkState) → OnlyPrinted a b → PrintingFailed b c → PrintingFailed a c
printing_failed_later {a = a} {b = b} c p rose = rose_later a.faults b.faults c.faults p.counts rose
