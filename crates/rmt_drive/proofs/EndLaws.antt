-- How calls of commands end.
use Rattle.std.proofs.Common.{◌≡◌, ◌≢◌, ◌⊎◌, inl, inr, ⊎_elim, ℕ, List, [], sym, refl, ◌∙◌, subst, append-nil, arith}
use Rattle.std.specs.Prelude.{IsTrue}
use Rattle.rmt_bits.proofs.FunctionLaws.{funext}
use Rattle.rmt_io.specs.Outside.{ShelfState, SinkState, HasFile, Gained, GainedNone, OnlyRead, PrintingFailed}
use Rattle.rmt_io.proofs.OutsideLaws.{tells_later, writing_failed_later}
use Rattle.rmt_drive.specs.declared.status.Status.{Status}
use Rattle.rmt_drive.specs.declared.status.Status.TheVariants.{Done, Usage, ReadFault, WriteFault, BadProgram, BadEntries, NoFit, BadImage, BadPackets, TooLong, NoMemory}
use Rattle.rmt_drive.specs.Files.{Files, Long, found}
use Rattle.rmt_drive.specs.Given.{Given, OfFound, OfOpened, Opens, Reads, told}
use Rattle.rmt_drive.specs.Ends.{Answered, AreSame, BrokenOff, CutShort, EndsWith, FileFailed, Outside, PrintsAll, StoppedBetween, Stops, outside}
use Rattle.rmt_drive.specs.Loading.{IsFound, NotRead, NotOpened}
use Rattle.rmt_runs.specs.Printing.{GainedFront}
use Rattle.rmt_runs.proofs.FrontLaws.{gained_none}

-- ---- answers

-- a call that ends as its command gives, or by a fault of writing
abbrev pub IsEnding : Status → Type 0
IsEnding status = PrintsAll status ⊎ (status ≡ TooLong)

-- memory was wanting between two files of another command too that may give the same
between_as : (before after : Outside) (gives other : Given → Type 0) (status : Status) → ((g : Given) → gives g → other g)
    → StoppedBetween before after gives status → StoppedBetween before after other status
between_as before after gives other status to b = record { memory = b.memory; given = b.given; is_given = to b.given b.is_given; files = b.files }

-- two ways to say what a command gives
pub answered_as : (before after : Outside) (gives other : Given → Type 0) (status : Status) → ((g : Given) → gives g → other g) → ((g : Given) → other g → gives g)
    → Answered before after gives status → Answered before after other status
answered_as before after gives other result to back = by result
  where
    ends : (status : Status) → EndsWith before after gives status → EndsWith before after other status
    ends status e = (e.0, to e.0 e.1, e.2)

    stop : (status : Status) → Stops before after gives status → Stops before after other status
    stop status s = record {
      files = ⊎_elim (λ same. inl same) (λ between. inr (between_as before after gives other status to between)) s.files;
      front = λ g h. let x = s.front g (back g h) in (x.0, to x.0 x.1, x.2);
      steady = λ steady e. let x = s.steady steady e in (x.0, to x.0 x.1, x.2);
    }

    by : (status : Status) → Answered before after gives status → Answered before after other status
    by Done h = ends Done h
    by Usage h = h
    by ReadFault h = stop ReadFault h
    by WriteFault h = ends WriteFault h
    by BadProgram h = ends BadProgram h
    by BadEntries h = ends BadEntries h
    by NoFit h = ends NoFit h
    by BadImage h = ends BadImage h
    by BadPackets h = ends BadPackets h
    by TooLong h = ends TooLong h
    by NoMemory h = stop NoMemory h

pub ends_by : (before after : Outside) (gives : Given → Type 0) (status : Status) → IsEnding status ⊎ (status ≡ WriteFault) → EndsWith before after gives status → Answered before after gives status
ends_by before after gives Done is e = e
ends_by before after gives WriteFault is e = e
ends_by before after gives BadProgram is e = e
ends_by before after gives BadEntries is e = e
ends_by before after gives NoFit is e = e
ends_by before after gives BadImage is e = e
ends_by before after gives BadPackets is e = e
ends_by before after gives TooLong is e = e
ends_by before after gives Usage is e = absurd (grind arith)
ends_by before after gives ReadFault is e = absurd (grind arith)
ends_by before after gives NoMemory is e = absurd (grind arith)

-- what is said of a command is said of one that may give more, of a call that did not fail to read, and printed nothing where memory was wanting
pub answered_where : (before after : Outside) (gives other : Given → Type 0) (status : Status) → (status ≢ ReadFault) → (status ≡ NoMemory → GainedNone before.sink after.sink)
    → ((g : Given) → gives g → other g) → Answered before after gives status → Answered before after other status
answered_where before after gives other result read quiet to = by result read quiet
  where
    ends : (status : Status) → EndsWith before after gives status → EndsWith before after other status
    ends status e = (e.0, to e.0 e.1, e.2)

    by : (status : Status) → status ≢ ReadFault → (status ≡ NoMemory → GainedNone before.sink after.sink) → Answered before after gives status → Answered before after other status
    by Done r q h = ends Done h
    by Usage r q h = h
    by ReadFault r q h = absurd (r refl)
    by WriteFault r q h = ends WriteFault h
    by BadProgram r q h = ends BadProgram h
    by BadEntries r q h = ends BadEntries h
    by NoFit r q h = ends NoFit h
    by BadImage r q h = ends BadImage h
    by BadPackets r q h = ends BadPackets h
    by TooLong r q h = ends TooLong h
    by NoMemory r q h = record {
      files = ⊎_elim (λ same. inl same) (λ between. inr (between_as before after gives other NoMemory to between)) h.files;
      front = λ g h. (g, h, gained_none before.sink after.sink g.text (q refl));
      steady = λ _ e. absurd (cc);
    }

module _ (before after : Outside) (gives : Given → Type 0) where
  -- a call that printed, with this status, a front of a text, or all of it where the status wants it, and wrote no file
  pub run_answered : (status result : Status) (text : List ℕ) → gives (told before.shelf.files status text) → AreSame after.shelf.files before.shelf.files → IsEnding status
      → (result ≡ WriteFault → text ≢ []) → (result ≡ status) ⊎ (result ≡ WriteFault)
      → (result ≡ status → PrintsAll status → Gained before.sink after.sink text) → GainedFront before.sink after.sink text → (result ≡ WriteFault → PrintingFailed before.sink after.sink)
      → Answered before after gives result
  run_answered status result text is same ending some how whole front failed =
      ends_by before after gives result (⊎_elim (λ e. inl (rw e ending)) (λ e. inr e) how) (
        told before.shelf.files status text,
        is,
        record {
          status_is = how;
          front = front;
          whole = λ e all. whole e (subst PrintsAll e all);
          files = λ _. same;
          others = λ name _. same name;
          fault = λ e. inr (record { counted = failed e; files = same });
          some = some;
        },
      )

  -- a call that printed a text with this status, and wrote no file
  pub told_answered : (status result : Status) (text : List ℕ) → gives (told before.shelf.files status text) → AreSame after.shelf.files before.shelf.files → PrintsAll status
      → (result ≡ WriteFault → text ≢ []) → (result ≡ status) ⊎ (result ≡ WriteFault)
      → (result ≡ status → Gained before.sink after.sink text) → GainedFront before.sink after.sink text → (result ≡ WriteFault → PrintingFailed before.sink after.sink)
      → Answered before after gives result
  told_answered status result text is same all some how whole front failed =
      run_answered status result text is same (inl all) some how (λ e _. whole e) front failed

  -- a call that stopped
  pub stops : (status : Status) → (status ≡ ReadFault) ⊎ (status ≡ NoMemory) → Stops before after gives status → Answered before after gives status
  stops status is s = ⊎_elim (λ e. rw e (subst (λ x. Stops before after gives x) e s)) (λ e. rw e (subst (λ x. Stops before after gives x) e s)) is

  -- a call that stopped before it printed anything
  pub stopped : (status : Status) → (status ≡ ReadFault) ⊎ (status ≡ NoMemory) → AreSame after.shelf.files before.shelf.files → GainedNone before.sink after.sink
      → (IsTrue before.shelf.steady → status ≡ ReadFault → (g : Given) × gives g × (g.status ≡ ReadFault)) → Answered before after gives status
  stopped status is same quiet steady =
      stops status is (record { files = inl same; front = λ g h. (g, h, gained_none before.sink after.sink g.text quiet); steady = steady })

  -- a call for want of memory, before it printed anything
  pub no_memory : AreSame after.shelf.files before.shelf.files → GainedNone before.sink after.sink → Answered before after gives NoMemory
  no_memory same quiet = stopped NoMemory (inr refl) same quiet (λ _ e. absurd (cc))

  -- a call that ends with TooLong, and told nothing
  pub silent : gives (told before.shelf.files TooLong []) → AreSame after.shelf.files before.shelf.files → GainedNone before.sink after.sink → Answered before after gives TooLong
  silent is same quiet =
      run_answered TooLong TooLong [] is same (inr refl) (λ e. absurd (cc)) (inl refl) (λ e _ tells. quiet tells ∙ sym (append-nil before.sink.bytes)) (gained_none before.sink after.sink [] quiet) (λ e. absurd (cc))

-- ---- files that are read first

-- what is said of a shelf behind a reading is said of it as it was before
pub later : (before after : Outside) (mid : ShelfState) (gives : Files → Given → Type 0) (status : Status) → OnlyRead before.shelf mid
    → Answered (outside mid before.sink) after (gives mid.files) status → Answered before after (gives before.shelf.files) status
later before after mid gives result r h =
    subst (λ files. Answered before after (gives files) result) same (by (gives mid.files) result h)
  where
    same : mid.files ≡ before.shelf.files
    same = funext mid.files before.shelf.files r.files

    file_failed : (g : Given) → FileFailed (outside mid before.sink) after g → FileFailed before after g
    file_failed g f = record {
      counted = writing_failed_later after.shelf r f.counted;
      quiet = f.quiet;
      files = subst (λ (files : Files). BrokenOff files after.shelf.files g.writes) same f.files;
    }

    between : (gives : Given → Type 0) (status : Status) → StoppedBetween (outside mid before.sink) after gives status → StoppedBetween before after gives status
    between gives status b = record {
      memory = b.memory;
      given = b.given;
      is_given = b.is_given;
      files = subst (λ (files : Files). CutShort files after.shelf.files b.given.writes) same b.files;
    }

    ends : (gives : Given → Type 0) (status : Status) → EndsWith (outside mid before.sink) after gives status → EndsWith before after gives status
    ends gives status e = (
      e.0,
      e.1,
      record {
        status_is = e.2.status_is;
        front = e.2.front;
        whole = e.2.whole;
        files = e.2.files;
        others = λ name other. e.2.others name other ∙ r.files name;
        fault = λ w. ⊎_elim (λ f. inl (file_failed e.0 f)) (λ f. inr (record { counted = f.counted; files = f.files })) (e.2.fault w);
        some = e.2.some;
      },
    )

    stop : (gives : Given → Type 0) (status : Status) → Stops (outside mid before.sink) after gives status → Stops before after gives status
    stop gives status s = record {
      files = ⊎_elim (λ same. inl (λ name. same name ∙ r.files name)) (λ b. inr (between gives status b)) s.files;
      front = s.front;
      steady = λ is. s.steady (r.stays_steady is);
    }

    by : (gives : Given → Type 0) (status : Status) → Answered (outside mid before.sink) after gives status → Answered before after gives status
    by gives Done h = ends gives Done h
    by gives Usage h = h
    by gives ReadFault h = stop gives ReadFault h
    by gives WriteFault h = ends gives WriteFault h
    by gives BadProgram h = ends gives BadProgram h
    by gives BadEntries h = ends gives BadEntries h
    by gives NoFit h = ends gives NoFit h
    by gives BadImage h = ends gives BadImage h
    by gives BadPackets h = ends gives BadPackets h
    by gives TooLong h = ends gives TooLong h
    by gives NoMemory h = stop gives NoMemory h

module _ (before after : Outside) (mid : ShelfState) (name : List ℕ) (next : Files → List ℕ → Given → Type 0) where
  -- a command that read a file goes on with its bytes, over the shelf as reading left it
  pub reads_on : (limit : ℕ) (bytes : List ℕ) (status : Status) → OnlyRead before.shelf mid → IsFound before.shelf name limit bytes
      → (IsTrue mid.tells → Answered (outside mid before.sink) after (next mid.files bytes) status)
      → IsTrue before.shelf.tells → Answered before after (Reads before.shelf.files name limit (next before.shelf.files)) status
  reads_on limit bytes status r is h tells =
      subst (λ f. Answered before after (λ g. OfFound before.shelf.files (next before.shelf.files) g f) status) (sym (is tells))
      (later before after mid (λ f. next f bytes) status r (h (tells_later r tells)))

  -- and so does one that opened a file
  pub opens_on : (status : Status) → OnlyRead before.shelf mid → HasFile before.shelf name mid.rest
      → (IsTrue mid.tells → Answered (outside mid before.sink) after (next mid.files mid.rest) status)
      → IsTrue before.shelf.tells → Answered before after (Opens before.shelf.files name (next before.shelf.files)) status
  opens_on status r is h tells =
      subst (λ f. Answered before after (λ g. OfOpened before.shelf.files (next before.shelf.files) g f) status) (sym (is tells))
      (later before after mid (λ f. next f mid.rest) status r (h (tells_later r tells)))

module _ (before : ShelfState) (sink : SinkState) (after : ShelfState) (name : List ℕ) (next : List ℕ → Given → Type 0) where
  abbrev reading : ℕ → Given → Type 0
  reading limit = Reads before.files name limit next

  -- a command ends where a file isn't read
  pub not_read : (limit : ℕ) (status : Status) → OnlyRead before after → NotRead before name limit status
      → IsTrue before.tells → Answered (outside before sink) (outside after sink) (Reads before.files name limit next) status
  not_read limit status r why tells =
      ⊎_elim (λ e. ended (inl e)) (λ h. ⊎_elim (λ e. rw e (silent _ _ (reading limit) (long (why.long e tells)) r.files (λ _. refl))) (λ e. ended (inr e)) h) why.kind
    where
      long : found limit (before.files name) ≡ Long → reading limit (told before.files TooLong [])
      long e = subst (λ f. OfFound before.files next (told before.files TooLong []) f) (sym e) refl

      ended : (status ≡ ReadFault) ⊎ (status ≡ NoMemory) → Answered (outside before sink) (outside after sink) (reading limit) status
      ended is =
          stopped _ _ (reading limit) status is r.files (λ _. refl)
          (λ steady e. (told before.files ReadFault [], subst (λ f. OfFound before.files next (told before.files ReadFault []) f) (sym (why.absent e steady)) refl, refl))

  -- or opened
  pub not_opened : (status : Status) → OnlyRead before after → NotOpened before name status
      → Answered (outside before sink) (outside after sink) (Opens before.files name next) status
  not_opened status r why =
      stopped _ _ (Opens before.files name next) status why.kind r.files (λ _. refl)
      (λ steady e. (told before.files ReadFault [], subst (λ f. OfOpened before.files next (told before.files ReadFault []) f) (sym (why.absent e steady)) refl, refl))
