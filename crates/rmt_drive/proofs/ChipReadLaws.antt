-- What the lines of a text say to the chip, line by line, and where the commit stands that finds no room.
use Rattle.std.proofs.Common.{◌≡◌, ℕ, ◌+◌, ◌≤◌, ◌<◌, Bool, true, false, cond, eqb, List, [], ◌∷◌, ◌++◌, Option, Some, None, Result, Ok, Err, refl, sym, ap, ◌∙◌, arith, append_assoc}
use Rattle.std.specs.Prelude.{fold, is_some}
use Rattle.std.proofs.lemmas.List.Sums.{fold-append}
use Rattle.rmt_bits.specs.Packet.{Packet}
use Rattle.rmt_config.specs.declared.config.Config.{Config}
use Rattle.rmt_ast.specs.declared.names.Names.{Names}
use Rattle.rmt_ast.specs.Events.{Arrives, Commits, Event}
use Rattle.rmt_packets.specs.declared.line_kind.LineKind.{LineKind}
use Rattle.rmt_packets.specs.declared.line_kind.LineKind.TheVariants as line
use Rattle.rmt_packets.specs.LineKinds.{kind_of}
use Rattle.rmt_packets.specs.PacketText.{BadLine, packet_of}
use Rattle.rmt_packets.specs.Pieces.{front_of}
use Rattle.rmt_packets.proofs.Fronts.{packet_of_front}
use Rattle.rmt_packets.proofs.KindLaws.{kind_of_front}
use Rattle.rmt_lists.specs.Running.{Running, line_change}
use Rattle.rmt_runs.specs.TextLines.{fronts_of}
use Rattle.rmt_drive.specs.ChipReading.{chip_reads_on, commits_in, read_by, unread_by, with_chip_commit, with_chip_line}
use Rattle.rmt_drive.specs.EventText.{EventReading, with_bad, with_change, with_commit, with_packet}
use Rattle.rmt_drive.proofs.EventTextLaws.{change_of_front}

-- a reading with a line more
abbrev pub chip_more : Config → Option ℕ → EventReading → ℕ × List ℕ → EventReading
chip_more c full r l = chip_reads_on (is_some c.names) full r r.bad l

-- a line says what its front says
chip_line_of_front : (named : Bool) (full : Option ℕ) (n : ℕ) (text : List ℕ) (r : EventReading)
    → with_chip_line named full n (front_of text) (kind_of (front_of text)) r ≡ with_chip_line named full n text (kind_of text) r
chip_line_of_front named full n text r = ap (λ (k : LineKind). with_chip_line named full n (front_of text) k r) (kind_of_front text) ∙ by named (kind_of text)
  where
    by : (b : Bool) (k : LineKind) → with_chip_line b full n (front_of text) k r ≡ with_chip_line b full n text k r
    by b line.Packet = ap (λ (o : Result Packet ℕ). with_packet n o r) (packet_of_front text)
    by true line.Addition = change_of_front n text r
    by false line.Addition = refl
    by true line.Removal = change_of_front n text r
    by false line.Removal = refl
    by true line.Commit = refl
    by false line.Commit = refl

module _ (c : Config) (full : Option ℕ) where
  -- where no line was bad, the line is read
  pub chip_good : (r : EventReading) (l : ℕ × List ℕ) → r.bad ≡ None → chip_more c full r l ≡ with_chip_line (is_some c.names) full l.0 l.1 (kind_of l.1) r
  chip_good r l e = ap (λ (b : Option BadLine). chip_reads_on (is_some c.names) full r b l) e

  -- behind a bad line nothing is
  pub chip_stays : (r : EventReading) (b : BadLine) (ls : List (ℕ × List ℕ)) → r.bad ≡ Some b → fold (chip_more c full) r ls ≡ r
  chip_stays r b [] e = refl
  chip_stays r b (l ∷ ls) e =
      ap (λ (x : EventReading). fold (chip_more c full) x ls) (ap (λ (o : Option BadLine). chip_reads_on (is_some c.names) full r o l) e) ∙ chip_stays r b ls e

  -- lines behind others
  pub chip_append : (ls more : List (ℕ × List ℕ)) → read_by c full (ls ++ more) ≡ fold (chip_more c full) (read_by c full ls) more
  chip_append ls more = fold-append (chip_more c full) (unread_by c) ls more

  -- a line more
  pub chip_line : (ls : List (ℕ × List ℕ)) (n : ℕ) (text : List ℕ) → (read_by c full ls).bad ≡ None
      → read_by c full (ls ++ (n, text) ∷ []) ≡ with_chip_line (is_some c.names) full n text (kind_of text) (read_by c full ls)
  chip_line ls n text good = chip_append ls ((n, text) ∷ []) ∙ chip_good (read_by c full ls) (n, text) good

  -- lines say what their fronts say
  front_read : (r : EventReading) (b : Option BadLine) (n : ℕ) (text : List ℕ) → chip_reads_on (is_some c.names) full r b (n, front_of text) ≡ chip_reads_on (is_some c.names) full r b (n, text)
  front_read r (Some b) n text = refl
  front_read r None n text = chip_line_of_front (is_some c.names) full n text r

  fronts_read : (r : EventReading) (ls : List (ℕ × List ℕ)) → fold (chip_more c full) r (fronts_of ls) ≡ fold (chip_more c full) r ls
  fronts_read r [] = refl
  fronts_read r (l ∷ ls) = ap (λ (x : EventReading). fold (chip_more c full) x (fronts_of ls)) (front_read r r.bad l.0 l.1) ∙ fronts_read (chip_more c full r l) ls

  pub said_so : (ls lines : List (ℕ × List ℕ)) → fronts_of ls ≡ lines → read_by c full ls ≡ read_by c full lines
  said_so ls lines is = sym (fronts_read (unread_by c) ls) ∙ ap (read_by c full) is

  -- a bad line ends it
  pub chip_end : (ls : List (ℕ × List ℕ)) (n : ℕ) (text : List ℕ) (more : List (ℕ × List ℕ)) (said : EventReading) (code : ℕ) → read_by c full (ls ++ (n, text) ∷ []) ≡ with_bad n code said
      → read_by c full (ls ++ (n, text) ∷ more) ≡ with_bad n code said
  chip_end ls n text more said code is =
      let bad : BadLine = record { code = code; line = n } in
      ap (read_by c full) (sym (append_assoc ls ((n, text) ∷ []) more)) ∙ chip_append (ls ++ (n, text) ∷ []) more
      ∙ ap (λ (x : EventReading). fold (chip_more c full) x more) is ∙ chip_stays (with_bad n code said) bad more refl

-- ---- how many commits were read

pub commits_append : (xs ys : List Event) → commits_in (xs ++ ys) ≡ commits_in xs + commits_in ys
commits_append [] ys = omega arith
commits_append ((Arrives packet) ∷ xs) ys = commits_append xs ys
commits_append ((Commits changes) ∷ xs) ys = let e = commits_append xs ys in omega (arith, e)

packet_keeps : (n : ℕ) (o : Result Packet ℕ) (r : EventReading) → commits_in (with_packet n o r).events ≡ commits_in r.events
packet_keeps n (Ok packet) r = let e = commits_append r.events (Arrives packet ∷ []) in omega (arith, e)
packet_keeps n (Err code) r = refl

change_keeps : (n : ℕ) (text : List ℕ) (o : Result Running ℕ) (r : EventReading) → commits_in (with_change n text o r).events ≡ commits_in r.events
change_keeps n text (Ok run) r = refl
change_keeps n text (Err code) r = refl

commit_counts : (r : EventReading) → commits_in (with_commit r).events ≡ commits_in r.events + 1
commit_counts r = let e = commits_append r.events (Commits r.changes ∷ []) in omega (arith, e)

line_counts : (named : Bool) (n : ℕ) (text : List ℕ) (k : LineKind) (r : EventReading) → commits_in r.events ≤ commits_in (with_chip_line named None n text k r).events
line_counts named n text line.Packet r = let e = packet_keeps n (packet_of text) r in omega (arith, e)
line_counts true n text line.Addition r = let e = change_keeps n text (line_change r.run text) r in omega (arith, e)
line_counts false n text line.Addition r = omega arith
line_counts true n text line.Removal r = let e = change_keeps n text (line_change r.run text) r in omega (arith, e)
line_counts false n text line.Removal r = omega arith
line_counts true n text line.Commit r = let e = commit_counts r in omega (arith, e)
line_counts false n text line.Commit r = omega arith

-- without names there is none
module _ (full : Option ℕ) where
  line_alone : (n : ℕ) (text : List ℕ) (k : LineKind) (r : EventReading) → commits_in (with_chip_line false full n text k r).events ≡ commits_in r.events
  line_alone n text line.Packet r = packet_keeps n (packet_of text) r
  line_alone n text line.Addition r = refl
  line_alone n text line.Removal r = refl
  line_alone n text line.Commit r = refl

  more_alone : (r : EventReading) (b : Option BadLine) (l : ℕ × List ℕ) → commits_in (chip_reads_on false full r b l).events ≡ commits_in r.events
  more_alone r (Some b) l = refl
  more_alone r None l = line_alone l.0 l.1 (kind_of l.1) r

  lines_alone : (c : Config) → c.names ≡ None → (ls : List (ℕ × List ℕ)) (r : EventReading) → commits_in (fold (chip_more c full) r ls).events ≡ commits_in r.events
  lines_alone c unnamed [] r = refl
  lines_alone c unnamed (l ∷ ls) r =
      lines_alone c unnamed ls (chip_more c full r l) ∙ ap (λ (o : Option Names). commits_in (chip_reads_on (is_some o) full r r.bad l).events) unnamed ∙ more_alone r r.bad l

  pub no_commits : (c : Config) → c.names ≡ None → (ls : List (ℕ × List ℕ)) → commits_in (read_by c full ls).events ≡ 0
  no_commits c unnamed ls = lines_alone c unnamed ls (unread_by c)

module _ (c : Config) where
  more_counts : (r : EventReading) (l : ℕ × List ℕ) → commits_in r.events ≤ commits_in (chip_more c None r l).events
  more_counts r l = by r.bad
    where
      by : (b : Option BadLine) → commits_in r.events ≤ commits_in (chip_reads_on (is_some c.names) None r b l).events
      by None = line_counts (is_some c.names) l.0 l.1 (kind_of l.1) r
      by (Some b) = omega arith

  lines_count : (ls : List (ℕ × List ℕ)) (r : EventReading) → commits_in r.events ≤ commits_in (fold (chip_more c None) r ls).events
  lines_count [] r = omega arith
  lines_count (l ∷ ls) r =
      let one = more_counts r l in
      let rest = lines_count ls (chip_more c None r l) in
      omega (arith, one, rest)

  pub lines_count_on : (ls more : List (ℕ × List ℕ)) → commits_in (read_by c None ls).events ≤ commits_in (read_by c None (ls ++ more)).events
  lines_count_on ls more =
      let e : commits_in (read_by c None (ls ++ more)).events ≡ commits_in (fold (chip_more c None) (read_by c None ls) more).events = ap (λ (x : EventReading). commits_in x.events) (chip_append c None ls more) in
      let rest = lines_count more (read_by c None ls) in
      omega (arith, e, rest)

  -- ---- the commit that finds no room

  module _ (k : ℕ) where
    commit_same : (n : ℕ) (r : EventReading) → commits_in (with_commit r).events ≤ k → with_chip_commit (Some k) n r ≡ with_commit r
    commit_same n r le =
        let e = commit_counts r in
        ap (λ (b : Bool). cond b (with_bad n 10 r) (with_commit r)) (other (commits_in r.events) k (omega (arith, e, le)))
      where
        other : (a b : ℕ) → a < b → eqb a b ≡ false
        other a b h = grind (arith, h)

    line_same : (named : Bool) (n : ℕ) (text : List ℕ) (kind : LineKind) (r : EventReading) → commits_in (with_chip_line named None n text kind r).events ≤ k
        → with_chip_line named (Some k) n text kind r ≡ with_chip_line named None n text kind r
    line_same named n text line.Packet r le = refl
    line_same named n text line.Addition r le = refl
    line_same named n text line.Removal r le = refl
    line_same true n text line.Commit r le = commit_same n r le
    line_same false n text line.Commit r le = refl

    more_same : (r : EventReading) (l : ℕ × List ℕ) → commits_in (chip_more c None r l).events ≤ k → chip_more c (Some k) r l ≡ chip_more c None r l
    more_same r l le = by r.bad le
      where
        by : (b : Option BadLine) → commits_in (chip_reads_on (is_some c.names) None r b l).events ≤ k
            → chip_reads_on (is_some c.names) (Some k) r b l ≡ chip_reads_on (is_some c.names) None r b l
        by None h = line_same (is_some c.names) l.0 l.1 (kind_of l.1) r h
        by (Some b) h = refl

    lines_same : (ls : List (ℕ × List ℕ)) (r : EventReading) → commits_in (fold (chip_more c None) r ls).events ≤ k → fold (chip_more c (Some k)) r ls ≡ fold (chip_more c None) r ls
    lines_same [] r le = refl
    lines_same (l ∷ ls) r le =
        let rest = lines_count ls (chip_more c None r l) in
        ap (λ (x : EventReading). fold (chip_more c (Some k)) x ls) (more_same r l (omega (arith, rest, le))) ∙ lines_same ls (chip_more c None r l) le

    -- before it all is read as in a text where each commit finds room
    pub full_same : (ls : List (ℕ × List ℕ)) → commits_in (read_by c None ls).events ≤ k → read_by c (Some k) ls ≡ read_by c None ls
    full_same ls le = lines_same ls (unread_by c) le

  -- it is a bad line of code 10
  pub full_text : (ls : List (ℕ × List ℕ)) (n : ℕ) (text : List ℕ) → is_some c.names ≡ true → (read_by c None ls).bad ≡ None → kind_of text ≡ line.Commit
      → read_by c (Some (commits_in (read_by c None ls).events)) (ls ++ (n, text) ∷ []) ≡ with_bad n 10 (read_by c None ls)
  full_text ls n text named good kind =
      let said = read_by c None ls in
      let k = commits_in said.events in
      let same : read_by c (Some k) ls ≡ said = full_same k ls (omega arith) in
      chip_line c (Some k) ls n text (ap (λ (x : EventReading). x.bad) same ∙ good)
      ∙ ap (λ (x : EventReading). with_chip_line (is_some c.names) (Some k) n text (kind_of text) x) same
      ∙ ap (λ (x : LineKind). with_chip_line (is_some c.names) (Some k) n text x said) kind
      ∙ ap (λ (b : Bool). with_chip_line b (Some k) n text line.Commit said) named
      ∙ ap (λ (b : Bool). cond b (with_bad n 10 said) (with_commit said)) (itself k)
    where
      itself : (a : ℕ) → eqb a a ≡ true
      itself a = grind arith
