-- Two readings of one text, each with the commit that finds no room in it, are the same, or one goes on behind the commit that the other refuses.
use Rattle.std.proofs.Common.{◌≡◌, ◌⊎◌, inl, inr, ℕ, ◌≤◌, Bool, true, false, cond, eqb, List, [], ◌∷◌, ◌++◌, Option, Some, None, Result, Ok, Err, refl, sym, ap, subst, ◌∙◌, arith, append_assoc, append-nil}
use Rattle.std.specs.Prelude.{fold, is_some}
use Rattle.std.proofs.lemmas.Bool.{eqb-false}
use Rattle.rmt_bits.specs.Lines.{numbered_lines}
use Rattle.rmt_bits.specs.Packet.{Packet}
use Rattle.rmt_config.specs.declared.config.Config.{Config}
use Rattle.rmt_ast.specs.Events.{Arrives, Commits, Event}
use Rattle.rmt_packets.specs.declared.line_kind.LineKind.{LineKind}
use Rattle.rmt_packets.specs.declared.line_kind.LineKind.TheVariants as line
use Rattle.rmt_packets.specs.LineKinds.{kind_of}
use Rattle.rmt_packets.specs.PacketText.{BadLine, packet_of}
use Rattle.rmt_runs.specs.TextLines.{lines_within}
use Rattle.rmt_runs.proofs.LineLaws.{whole_more}
use Rattle.rmt_lists.specs.Running.{Running, line_change}
use Rattle.rmt_drive.specs.ChipReading.{by_chip, chip_reads_on, commits_in, finds_none, read_by, unread_by, with_chip_commit, with_chip_line}
use Rattle.rmt_drive.specs.ChipRuns.{bad_within, told_of}
use Rattle.rmt_drive.specs.EventText.{EventReading, with_bad, with_change, with_commit, with_packet}
use Rattle.rmt_drive.specs.Runs.{told_within}
use Rattle.rmt_drive.proofs.ChipReadLaws.{chip_append, chip_more, chip_stays, commits_append}
use Rattle.rmt_drive.proofs.EventTextLaws.{packet_grows}

-- ---- packets and commits come behind those so far

change_grows : (n : ℕ) (text : List ℕ) (o : Result Running ℕ) (r : EventReading) → (with_change n text o r).events ≡ r.events
change_grows n text (Ok run) r = refl
change_grows n text (Err code) r = refl

grows_none : (r s : EventReading) → s.events ≡ r.events → (more : List Event) × (s.events ≡ r.events ++ more)
grows_none r s e = ([], e ∙ sym (append-nil r.events))

line_grows : (named : Bool) (full : Option ℕ) (n : ℕ) (text : List ℕ) (k : LineKind) (r : EventReading) → (more : List Event) × ((with_chip_line named full n text k r).events ≡ r.events ++ more)
line_grows named full n text line.Packet r = packet_grows n (packet_of text) r
line_grows true full n text line.Addition r = grows_none r (with_change n text (line_change r.run text) r) (change_grows n text (line_change r.run text) r)
line_grows false full n text line.Addition r = grows_none r (with_bad n 4 r) refl
line_grows true full n text line.Removal r = grows_none r (with_change n text (line_change r.run text) r) (change_grows n text (line_change r.run text) r)
line_grows false full n text line.Removal r = grows_none r (with_bad n 4 r) refl
line_grows true full n text line.Commit r = by (finds_none full r.events)
  where
    by : (b : Bool) → (more : List Event) × ((cond b (with_bad n 10 r) (with_commit r)).events ≡ r.events ++ more)
    by true = grows_none r (with_bad n 10 r) refl
    by false = (Commits r.changes ∷ [], refl)
line_grows false full n text line.Commit r = grows_none r (with_bad n 4 r) refl

module _ (c : Config) (full : Option ℕ) where
  more_grows : (r : EventReading) (l : ℕ × List ℕ) → (more : List Event) × ((chip_more c full r l).events ≡ r.events ++ more)
  more_grows r l = by r.bad
    where
      by : (b : Option BadLine) → (more : List Event) × ((chip_reads_on (is_some c.names) full r b l).events ≡ r.events ++ more)
      by (Some b) = grows_none r r refl
      by None = line_grows (is_some c.names) full l.0 l.1 (kind_of l.1) r

  lines_grow : (ls : List (ℕ × List ℕ)) (r : EventReading) → (more : List Event) × ((fold (chip_more c full) r ls).events ≡ r.events ++ more)
  lines_grow [] r = grows_none r r refl
  lines_grow (l ∷ ls) r =
      let one = more_grows r l in
      let rest = lines_grow ls (chip_more c full r l) in
      (one.0 ++ rest.0, rest.1 ∙ ap (λ (es : List Event). es ++ rest.0) one.1 ∙ append_assoc r.events one.0 rest.0)

-- ---- where two readings part

module _ (c : Config) (k : ℕ) (other : Option ℕ) where
  -- one reading ends with the commit that it refuses, and the other goes on behind it
  pub record Parts (ends goes : EventReading) : Type 0 where
    pub said : EventReading
    pub number : ℕ
    pub named : is_some c.names ≡ true
    pub cut : ends ≡ with_bad number 10 said
    pub later : List Event
    pub on : goes.events ≡ said.events ++ Commits said.changes ∷ later

  -- the same, and the commit is still to come, or they part
  abbrev GoOrPart : EventReading → EventReading → Type 0
  GoOrPart r s = ((r ≡ s) × (commits_in s.events ≤ k)) ⊎ Parts r s

  module _ (never : (es : List Event) → commits_in es ≤ k → finds_none other es ≡ false) where
    packet_few : (n : ℕ) (text : List ℕ) (r : EventReading) → commits_in r.events ≤ k → commits_in (with_packet n (packet_of text) r).events ≤ k
    packet_few n text r le = by (packet_of text)
      where
        by : (o : Result Packet ℕ) → commits_in (with_packet n o r).events ≤ k
        by (Ok packet) = let e = commits_append r.events (Arrives packet ∷ []) in omega (arith, e, le)
        by (Err code) = le

    change_few : (n : ℕ) (text : List ℕ) (r : EventReading) → commits_in r.events ≤ k → commits_in (with_change n text (line_change r.run text) r).events ≤ k
    change_few n text r le = subst (λ (es : List Event). commits_in es ≤ k) (sym (change_grows n text (line_change r.run text) r)) le

    commit_parts : (n : ℕ) (r : EventReading) → is_some c.names ≡ true → commits_in r.events ≤ k → GoOrPart (with_chip_commit (Some k) n r) (with_chip_commit other n r)
    commit_parts n r named le =
        subst (λ b. GoOrPart (with_chip_commit (Some k) n r) (cond b (with_bad n 10 r) (with_commit r))) (sym (never r.events le)) (by (eqb (commits_in r.events) k) refl)
      where
        by : (b : Bool) → eqb (commits_in r.events) k ≡ b → GoOrPart (cond b (with_bad n 10 r) (with_commit r)) (with_commit r)
        by true e = inr (record { said = r; number = n; named = named; cut = refl; later = []; on = refl })
        by false e =
            let ne = eqb-false (commits_in r.events) k e in
            let more = commits_append r.events (Commits r.changes ∷ []) in
            inl (refl, omega (arith, ne, more, le))

    line_parts : (named : Bool) → is_some c.names ≡ named → (n : ℕ) (text : List ℕ) (kind : LineKind) (r : EventReading) → commits_in r.events ≤ k
        → GoOrPart (with_chip_line named (Some k) n text kind r) (with_chip_line named other n text kind r)
    line_parts named is n text line.Packet r le = inl (refl, packet_few n text r le)
    line_parts true is n text line.Addition r le = inl (refl, change_few n text r le)
    line_parts false is n text line.Addition r le = inl (refl, le)
    line_parts true is n text line.Removal r le = inl (refl, change_few n text r le)
    line_parts false is n text line.Removal r le = inl (refl, le)
    line_parts true is n text line.Commit r le = commit_parts n r is le
    line_parts false is n text line.Commit r le = inl (refl, le)

    more_parts : (r : EventReading) (l : ℕ × List ℕ) → commits_in r.events ≤ k → GoOrPart (chip_more c (Some k) r l) (chip_more c other r l)
    more_parts r l le = by r.bad
      where
        by : (b : Option BadLine) → GoOrPart (chip_reads_on (is_some c.names) (Some k) r b l) (chip_reads_on (is_some c.names) other r b l)
        by (Some b) = inl (refl, le)
        by None = line_parts (is_some c.names) refl l.0 l.1 (kind_of l.1) r le

    -- behind the parting one stays, and the other grows
    parts_on : (r s : EventReading) (ls : List (ℕ × List ℕ)) → Parts r s → Parts (fold (chip_more c (Some k)) r ls) (fold (chip_more c other) s ls)
    parts_on r s ls p =
        let rest = lines_grow c other ls s in
        let bad : BadLine = record { code = 10; line = p.number } in
        record {
          said = p.said;
          number = p.number;
          named = p.named;
          cut = ap (λ (x : EventReading). fold (chip_more c (Some k)) x ls) p.cut ∙ chip_stays c (Some k) (with_bad p.number 10 p.said) bad ls refl;
          later = p.later ++ rest.0;
          on = rest.1 ∙ ap (λ (es : List Event). es ++ rest.0) p.on ∙ append_assoc p.said.events (Commits p.said.changes ∷ p.later) rest.0;
        }

    lines_part : (ls : List (ℕ × List ℕ)) (r : EventReading) → commits_in r.events ≤ k → GoOrPart (fold (chip_more c (Some k)) r ls) (fold (chip_more c other) r ls)
    lines_part [] r le = inl (refl, le)
    lines_part (l ∷ ls) r le = elim (more_parts r l le) [
      | inl same ↦
          subst (λ (x : EventReading). GoOrPart (fold (chip_more c (Some k)) x ls) (fold (chip_more c other) (chip_more c other r l) ls)) (sym same.0) (lines_part ls (chip_more c other r l) same.1)
      | inr parts ↦ inr (parts_on (chip_more c (Some k) r l) (chip_more c other r l) ls parts)
    ]

    -- a text and a front of its lines: both readings are the same of both, or they part in the text
    pub text_parts : (front more : List (ℕ × List ℕ)) → ((read_by c (Some k) front ≡ read_by c other front) × (read_by c (Some k) (front ++ more) ≡ read_by c other (front ++ more)))
        ⊎ Parts (read_by c (Some k) (front ++ more)) (read_by c other (front ++ more))
    text_parts front more = elim (lines_part front (unread_by c) (omega arith)) [
      | inr parts ↦
          inr (subst (λ (x : EventReading). Parts x (read_by c other (front ++ more))) (sym (chip_append c (Some k) front more))
          (subst (λ (x : EventReading). Parts (fold (chip_more c (Some k)) (read_by c (Some k) front) more) x) (sym (chip_append c other front more)) (parts_on (read_by c (Some k) front) (read_by c other front) more parts)))
      | inl same ↦ elim (lines_part more (read_by c other front) same.1) [
        | inl both ↦
            inl (same.0, chip_append c (Some k) front more ∙ ap (λ (x : EventReading). fold (chip_more c (Some k)) x more) same.0 ∙ both.0 ∙ sym (chip_append c other front more))
        | inr parts ↦
            let ends = chip_append c (Some k) front more ∙ ap (λ (x : EventReading). fold (chip_more c (Some k)) x more) same.0 in
            inr (subst (λ (x : EventReading). Parts x (read_by c other (front ++ more))) (sym ends)
            (subst (λ (x : EventReading). Parts (fold (chip_more c (Some k)) (read_by c other front) more) x) (sym (chip_append c other front more)) parts))
      ]
    ]

-- ---- what is told of a text

module _ (c : Config) (limit : ℕ) (text : List ℕ) where
  -- it is what is read of all of its lines
  pub told_is : (full : Option ℕ) → told_of c full limit text ≡ read_by c full (numbered_lines 1 text)
  told_is full = by (bad_within c full limit text) refl
    where
      by : (bad : Option BadLine) → bad_within c full limit text ≡ bad → told_within (by_chip c full) limit text bad ≡ read_by c full (numbered_lines 1 text)
      by None e = refl
      by (Some b) e =
          let front = lines_within limit text in
          let w = whole_more limit text in
          sym (chip_stays c full (read_by c full front) b w.0 e) ∙ sym (chip_append c full front w.0) ∙ sym (ap (read_by c full) w.1)

  -- two readings tell the same with the same bad line within the limit, or they part
  pub record TellSame (full other : Option ℕ) : Type 0 where
    pub bad : bad_within c full limit text ≡ bad_within c other limit text
    pub told : told_of c full limit text ≡ told_of c other limit text

  pub tell_or_part : (k : ℕ) (other : Option ℕ) → ((es : List Event) → commits_in es ≤ k → finds_none other es ≡ false)
      → TellSame (Some k) other ⊎ Parts c k other (told_of c (Some k) limit text) (told_of c other limit text)
  tell_or_part k other never =
      let front = lines_within limit text in
      let w = whole_more limit text in
      let whole : (full : Option ℕ) → told_of c full limit text ≡ read_by c full (front ++ w.0) = λ full. told_is full ∙ ap (read_by c full) w.1 in
      elim (text_parts c k other never front w.0) [
        | inl same ↦ inl (record {
          bad = ap (λ (x : EventReading). x.bad) same.0;
          told = whole (Some k) ∙ same.1 ∙ sym (whole other);
        })
        | inr parts ↦
            inr (subst (λ (x : EventReading). Parts c k other x (told_of c other limit text)) (sym (whole (Some k)))
            (subst (λ (x : EventReading). Parts c k other (read_by c (Some k) (front ++ w.0)) x) (sym (whole other)) parts))
      ]
