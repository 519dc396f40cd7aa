-- What the lines of a text say that may change entries, line by line.
use Rattle.std.proofs.Common.{◌≡◌, ◌⊎◌, ℕ, ◌≤◌, ◌&&◌, Bool, true, false, cond, eqb, List, [], ◌∷◌, ◌++◌, length, Option, Some, None, Result, Ok, Err, refl, sym, ap, ◌∙◌, inl, inr, arith, append_assoc, append-nil}
use Rattle.std.specs.Prelude.{◌||◌, codes, drop, fold}
use Rattle.std.specs.Str.{bytes_eq}
use Rattle.std.proofs.lemmas.Bool.{and_parts, cases_lt, false≢true, le-leb}
use Rattle.std.proofs.lemmas.List.{length-take-le, take_all}
use Rattle.std.proofs.lemmas.List.Sums.{fold-append}
use Rattle.rmt_bits.specs.Packet.{Packet}
use Rattle.rmt_ast.specs.declared.program.Program.{Program}
use Rattle.rmt_ast.specs.declared.entry.Entry.{Entry}
use Rattle.rmt_ast.specs.Events.{Arrives, Commits, Event}
use Rattle.rmt_packets.specs.declared.line_kind.LineKind.{LineKind}
use Rattle.rmt_packets.specs.declared.line_kind.LineKind.TheVariants as line
use Rattle.rmt_packets.specs.LineKinds.{begins_with, kind_of}
use Rattle.rmt_packets.specs.PacketText.{BadLine, packet_of}
use Rattle.rmt_packets.specs.Pieces.{front_of, front_size}
use Rattle.rmt_packets.proofs.Fronts.{packet_of_front}
use Rattle.rmt_packets.proofs.KindLaws.{kind_of_front}
use Rattle.rmt_packets.proofs.StandsLaws.{front_size_is}
use Rattle.rmt_lists.specs.Running.{Running, begins, is_change, line_change}
use Rattle.rmt_runs.specs.TextLines.{fronts_of}
use Rattle.rmt_drive.specs.EventText.{EventReading, events_of, read_on, unread, with_change, with_line, with_packet}

-- ---- one line more

-- a reading with a line more
abbrev pub read_more : EventReading → ℕ × List ℕ → EventReading
read_more r l = read_on r r.bad l

-- where no line was bad, the line is read
pub read_good : (r : EventReading) (l : ℕ × List ℕ) → r.bad ≡ None → read_more r l ≡ with_line l.0 l.1 (kind_of l.1) r
read_good r l e = ap (λ (b : Option BadLine). read_on r b l) e

-- behind a bad line nothing is
pub bad_stays : (r : EventReading) (b : BadLine) (ls : List (ℕ × List ℕ)) → r.bad ≡ Some b → fold read_more r ls ≡ r
bad_stays r b [] e = refl
bad_stays r b (l ∷ ls) e = ap (λ (x : EventReading). fold read_more x ls) (ap (λ (o : Option BadLine). read_on r o l) e) ∙ bad_stays r b ls e

-- a line says what its front says
long_change : (run : Running) (text : List ℕ) → 18444 ≤ length text → line_change run text ≡ Err 5
long_change run text le = let e = le-leb 18444 (length text) le in rw e refl

pub change_of_front : (n : ℕ) (text : List ℕ) (r : EventReading) → with_change n (front_of text) (line_change r.run (front_of text)) r ≡ with_change n text (line_change r.run text) r
change_of_front n text r =
    elim (cases_lt (length text) front_size) [
      | inl lt ↦ ap (λ (t : List ℕ). with_change n t (line_change r.run t) r) (take_all front_size text (omega (arith, lt)))
      | inr ge ↦
          let few : length (front_of text) ≡ front_size = length-take-le front_size text ge in
          ap (λ (o : Result Running ℕ). with_change n (front_of text) o r) (long_change r.run (front_of text) (omega (arith, few, front_size_is)))
          ∙ sym (ap (λ (o : Result Running ℕ). with_change n text o r) (long_change r.run text (omega (arith, ge, front_size_is))))
    ]

line_of_front : (n : ℕ) (text : List ℕ) (r : EventReading) → with_line n (front_of text) (kind_of (front_of text)) r ≡ with_line n text (kind_of text) r
line_of_front n text r = ap (λ (k : LineKind). with_line n (front_of text) k r) (kind_of_front text) ∙ by (kind_of text)
  where
    by : (k : LineKind) → with_line n (front_of text) k r ≡ with_line n text k r
    by line.Packet = ap (λ (o : Result Packet ℕ). with_packet n o r) (packet_of_front text)
    by line.Addition = change_of_front n text r
    by line.Removal = change_of_front n text r
    by line.Commit = refl

front_read : (r : EventReading) (b : Option BadLine) (n : ℕ) (text : List ℕ) → read_on r b (n, front_of text) ≡ read_on r b (n, text)
front_read r (Some b) n text = refl
front_read r None n text = line_of_front n text r

fronts_read : (r : EventReading) (ls : List (ℕ × List ℕ)) → fold read_more r (fronts_of ls) ≡ fold read_more r ls
fronts_read r [] = refl
fronts_read r (l ∷ ls) = ap (λ (x : EventReading). fold read_more x (fronts_of ls)) (front_read r r.bad l.0 l.1) ∙ fronts_read (read_more r l) ls

-- ---- changes by their kind

signed_begins : (sign : ℕ) (text : List ℕ) → begins_with sign text ≡ true → (begins sign text ≡ true) × (begins 32 (drop 1 text) ≡ true)
signed_begins sign [] e = absurd (false≢true e)
signed_begins sign (x ∷ []) e = absurd (false≢true e)
signed_begins sign (x ∷ y ∷ rest) e = and_parts (eqb x sign) (eqb y 32) e

kind_is : (a b d : Bool) → (cond a line.Addition (cond b line.Removal (cond d line.Commit line.Packet)) ≡ line.Addition → a ≡ true) × (cond a line.Addition (cond b line.Removal (cond d line.Commit line.Packet)) ≡ line.Removal → b ≡ true)
kind_is true b d = (λ e. refl, λ e. absurd (cc))
kind_is false true d = (λ e. absurd (cc), λ e. refl)
kind_is false false true = (λ e. absurd (cc), λ e. absurd (cc))
kind_is false false false = (λ e. absurd (cc), λ e. absurd (cc))

-- a line of one of the two kinds is a change
change_if : (a b d : Bool) → (a ≡ true) ⊎ (b ≡ true) → d ≡ true → ((a || b) && d) ≡ true
change_if true b true (inl e) f = refl
change_if true b true (inr e) f = refl
change_if false true true (inr e) f = refl
change_if false b true (inl e) f = absurd (false≢true e)
change_if false false true (inr e) f = absurd (false≢true e)
change_if a b false o f = absurd (false≢true f)

pub addition_changes : (text : List ℕ) → kind_of text ≡ line.Addition → is_change text ≡ true
addition_changes text e =
    let b = signed_begins 43 text ((kind_is (begins_with 43 text) (begins_with 45 text) (bytes_eq text (codes "commit"))).0 e) in
    change_if (begins 43 text) (begins 45 text) (begins 32 (drop 1 text)) (inl b.0) b.1

pub removal_changes : (text : List ℕ) → kind_of text ≡ line.Removal → is_change text ≡ true
removal_changes text e =
    let b = signed_begins 45 text ((kind_is (begins_with 43 text) (begins_with 45 text) (bytes_eq text (codes "commit"))).1 e) in
    change_if (begins 43 text) (begins 45 text) (begins 32 (drop 1 text)) (inr b.0) b.1

-- ---- packets and commits come behind those so far

pub packet_grows : (n : ℕ) (o : Result Packet ℕ) (r : EventReading) → (more : List Event) × ((with_packet n o r).events ≡ r.events ++ more)
packet_grows n (Ok packet) r = (Arrives packet ∷ [], refl)
packet_grows n (Err code) r = ([], sym (append-nil r.events))

change_grows : (n : ℕ) (text : List ℕ) (o : Result Running ℕ) (r : EventReading) → (more : List Event) × ((with_change n text o r).events ≡ r.events ++ more)
change_grows n text (Ok run) r = ([], sym (append-nil r.events))
change_grows n text (Err code) r = ([], sym (append-nil r.events))

pub line_grows : (n : ℕ) (text : List ℕ) (k : LineKind) (r : EventReading) → (more : List Event) × ((with_line n text k r).events ≡ r.events ++ more)
line_grows n text line.Packet r = packet_grows n (packet_of text) r
line_grows n text line.Addition r = change_grows n text (line_change r.run text) r
line_grows n text line.Removal r = change_grows n text (line_change r.run text) r
line_grows n text line.Commit r = (Commits r.changes ∷ [], refl)

read_grows : (r : EventReading) (b : Option BadLine) (l : ℕ × List ℕ) → (more : List Event) × ((read_on r b l).events ≡ r.events ++ more)
read_grows r (Some b) l = ([], sym (append-nil r.events))
read_grows r None l = line_grows l.0 l.1 (kind_of l.1) r

pub lines_grow : (r : EventReading) (ls : List (ℕ × List ℕ)) → (more : List Event) × ((fold read_more r ls).events ≡ r.events ++ more)
lines_grow r [] = ([], sym (append-nil r.events))
lines_grow r (l ∷ ls) =
    let one = read_grows r r.bad l in
    let rest = lines_grow (read_more r l) ls in
    (one.0 ++ rest.0, rest.1 ∙ ap (λ (es : List Event). es ++ rest.0) one.1 ∙ append_assoc r.events one.0 rest.0)

-- ---- a text

module _ (p : Program) (lists : List (List Entry)) where
  -- lines behind others
  pub events_append : (ls more : List (ℕ × List ℕ)) → events_of p lists (ls ++ more) ≡ fold read_more (events_of p lists ls) more
  events_append ls more = fold-append read_more (unread p lists) ls more

  -- a line more
  pub events_more : (ls : List (ℕ × List ℕ)) (n : ℕ) (text : List ℕ) → (events_of p lists ls).bad ≡ None → events_of p lists (ls ++ (n, text) ∷ []) ≡ with_line n text (kind_of text) (events_of p lists ls)
  events_more ls n text good = events_append ls ((n, text) ∷ []) ∙ read_good (events_of p lists ls) (n, text) good

  -- lines say what their fronts say
  pub said_so : (ls lines : List (ℕ × List ℕ)) → fronts_of ls ≡ lines → events_of p lists ls ≡ events_of p lists lines
  said_so ls lines is = sym (fronts_read (unread p lists) ls) ∙ ap (events_of p lists) is
