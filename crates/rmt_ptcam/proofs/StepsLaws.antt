-- The clustered parser meets no more states than the walk takes headers.
use Rattle.std.proofs.Common.{◌≡◌, ◌⊎◌, ◌&&◌, cond, nat_lt, Bool, true, false, ℕ, zero, suc, ◌+◌, ◌-◌, ◌<◌, ◌≤◌, List, length, find, take, drop, Option, Some, None, refl, sym, ap, subst, ◌∙◌, inl, inr, arith}
use Rattle.std.specs.Prelude.{All, slice_get, slice_set}
use Rattle.std.proofs.lemmas.Bool.{cases_eq, cases_lt, le-ltb, lt-ltb, ltb-true, and_parts}
use Rattle.rmt_bits.specs.declared.lane.Lane.{Lane}
use Rattle.rmt_ptcam.specs.Types.{Program, ParserConfig, ParserState, ParserEntry, Next, TailOf}
use Rattle.rmt_ast.specs.Walk as walks
use Rattle.rmt_ast.specs.WellFormed.{IsProgram}
use Rattle.rmt_phv.specs.Places.{KeepsApart}
use Rattle.rmt_config.specs.Agreement.{EndsAs}
use Rattle.rmt_config.specs.Parser.{begin}
use Rattle.rmt_ptcam.specs.Needs.{refusal}
use Rattle.rmt_ptcam.specs.Plain.{plain}
use Rattle.rmt_ptcam.specs.Joining.{can_join}
use Rattle.rmt_ptcam.specs.Clustering.{all_joined, clustered, compact}
use Rattle.rmt_ptcam.proofs.AgreementLaws.{same_within, start_step}
use Rattle.rmt_ptcam.proofs.CompactLaws.{compact_within, first_met}
use Rattle.rmt_ptcam.proofs.JoinFacts.{may_join}
use Rattle.rmt_ptcam.proofs.JoinedKeeps.{joined_keeps}
use Rattle.rmt_ptcam.proofs.JoinedParse.{formed_e}
use Rattle.rmt_bits.specs.Bits.{bits_of_bytes}
use Rattle.rmt_config.specs.declared.config.Next.TheVariants as next
use Rattle.rmt_config.specs.Parser.{Parse, Reached, Accept, Reject, Short, behind, behind_tail, follow, past_length, past_tail, step, tail_length, value_at}
use Rattle.rmt_config.specs.ParserForm.{next_is_formed}
use Rattle.rmt_ptcam.specs.Joining.{KeepsForm, Row, joined, lookups_at, rows_in, rows_of, together}
use Rattle.rmt_ptcam.specs.Steps.{MeetsNoMore, ParsesWithin, parse_within, walk_within}
use Rattle.rmt_ptcam.proofs.JoinFacts.{MayJoin, find_in}
use Rattle.rmt_ptcam.proofs.JoinsHold.{StaysUnderJoins, joins_hold}
use Rattle.rmt_ptcam.proofs.JoinedParse.{found_row, get_set_same, own_rows, step_other}
use Rattle.rmt_ptcam.proofs.JoinParts.{join_parts}
use Rattle.rmt_ptcam.proofs.RowLaws.{hits, row_step, taken_made, taken_row}
use Rattle.rmt_bits.proofs.ListLaws.{slice_get-set_other}

-- ---- a step ends, or goes on at one state

-- what a step does, whatever comes behind
data Does (f : (ℕ → Reached → Parse) → Parse) (to : Next) : Type 0 where
  ends : (end : Parse) → ((goes : ℕ → Reached → Parse) → f goes ≡ end) → Does f to
  leads : (s : ℕ) (q : Reached) → to ≡ next.State s → ((goes : ℕ → Reached → Parse) → f goes ≡ goes s q) → Does f to

does_follow : (to : Next) (q : Reached) → Does (λ goes. follow goes to q) to
does_follow next.Accept q = ends (Accept q) (λ goes. refl)
does_follow next.Reject q = ends Reject (λ goes. refl)
does_follow (next.State s) q = leads s q refl (λ goes. refl)

does_cut : (f : (ℕ → Reached → Parse) → Parse) (to : Next) (b : Bool) → Does f to → Does (λ goes. cond b Short (f goes)) to
does_cut f to true d = ends Short (λ goes. refl)
does_cut f to false d = d

does_length : (to : Next) (left header : ℕ) (o : Option ℕ) (r : Reached) → Does (λ goes. past_length (follow goes to) left header o r) to
does_length to left header None r = ends Reject (λ goes. refl)
does_length to left header (Some len) r = does_cut (λ goes. follow goes to (behind_tail header len r)) to (nat_lt left len) (does_follow to (behind_tail header len r))

does_tail : (to : Next) (window : List ℕ) (left : ℕ) (o : Option TailOf) (r : Reached) → Does (λ goes. past_tail (follow goes to) window left o r) to
does_tail to window left None r = does_follow to r
does_tail to window left (Some t) r = does_length to left t.header (tail_length (bits_of_bytes window t.from t.len) t.unit t.base) r

does_step : (frame : List ℕ) (x : Row) (r : Reached) → Does (λ goes. step goes frame x.tail (Some x.entry) r) x.entry.next
does_step frame x r =
    let e : ParserEntry = x.entry in
    does_cut (λ goes. past_tail (follow goes e.next) (take e.need (drop r.at frame)) (length frame - (r.at + e.need)) x.tail (behind (take e.need (drop r.at frame)) e r)) e.next (nat_lt (length frame) (r.at + e.need))
    (does_tail e.next (take e.need (drop r.at frame)) (length frame - (r.at + e.need)) x.tail (behind (take e.need (drop r.at frame)) e r))

-- the same of a row that may be found; a next state that is gone to is there
data DoesRow (states : ℕ) (frame : List ℕ) (o : Option Row) (r : Reached) : Type 0 where
  row_ends : (end : Parse) → ((goes : ℕ → Reached → Parse) → row_step goes frame o r ≡ end) → DoesRow states frame o r
  row_on : (s : ℕ) (q : Reached) → s < states → ((goes : ℕ → Reached → Parse) → row_step goes frame o r ≡ goes s q) → DoesRow states frame o r

next_below : (states state s : ℕ) → next_is_formed states state (next.State s) ≡ true → s < states
next_below states state s formed = ltb-true s states (and_parts (nat_lt s states) (nat_lt s 256) (and_parts (nat_lt s states && nat_lt s 256) (nat_lt state s) formed).0).0

does_row : (states state : ℕ) (frame : List ℕ) (r : Reached) (o : Option Row) → ((x : Row) → o ≡ Some x → next_is_formed states state x.entry.next ≡ true) → DoesRow states frame o r
does_row states state frame r None formed = row_ends Reject (λ goes. refl)
does_row states state frame r (Some x) formed = by (does_step frame x r)
  where
    by : Does (λ goes. step goes frame x.tail (Some x.entry) r) x.entry.next → DoesRow states frame (Some x) r
    by (ends end same) = row_ends end same
    by (leads s q goes_on same) = row_on s q (next_below states state s (subst (λ (to : Next). next_is_formed states state to ≡ true) goes_on (formed x refl))) same

-- ---- a parse that is cut off

module _ (parser : ParserConfig) (keeps : KeepsForm parser) (frame : List ℕ) where
  abbrev within : Parse → ℕ → ℕ → Reached → Parse
  within rest k s r = parse_within rest k parser frame s r

  abbrev Done : ℕ → ℕ → Reached → Type 0
  Done k s r = within Short k s r ≡ within Reject k s r

  abbrev value_of : ℕ → Reached → ℕ
  value_of s r = value_at frame r.at (slice_get parser.states s)

  abbrev found : ℕ → Reached → Option Row
  found s r = find (hits s (value_of s r)) (rows_of parser)

  by_row : (rest : Parse) (k s : ℕ) (r : Reached) → within rest (suc k) s r ≡ row_step (parse_within rest k parser frame) frame (found s r) r
  by_row rest k s r = taken_row parser (parse_within rest k parser frame) frame s (value_of s r) r

  does_at : (s : ℕ) (r : Reached) → DoesRow (length parser.states) frame (found s r) r
  does_at s r = does_row (length parser.states) s frame r (found s r) (λ x is. found_row parser keeps frame s (value_of s r) x is)

  -- the state that is gone to is done with one state less
  done_on : (k s t : ℕ) (r q : Reached) → Done (suc k) s r → ((goes : ℕ → Reached → Parse) → row_step goes frame (found s r) r ≡ goes t q) → Done k t q
  done_on k s t r q done same =
      sym (by_row Short k s r ∙ same (parse_within Short k parser frame)) ∙ done ∙ by_row Reject k s r ∙ same (parse_within Reject k parser frame)

  -- with one state more the same
  one_more : (k s : ℕ) (r : Reached) (rest : Parse) → Done k s r → within rest (suc k) s r ≡ within rest k s r
  one_more zero s r rest done = absurd cc
  one_more (suc k) s r rest done =
      by_row rest (suc k) s r ∙ by (does_at s r) (λ t q d. one_more k t q rest d) ∙ sym (by_row rest k s r)
    where
      by : DoesRow (length parser.states) frame (found s r) r → ((t : ℕ) (q : Reached) → Done k t q → within rest (suc k) t q ≡ within rest k t q)
          → row_step (parse_within rest (suc k) parser frame) frame (found s r) r ≡ row_step (parse_within rest k parser frame) frame (found s r) r
      by (row_ends end same) later = same (parse_within rest (suc k) parser frame) ∙ sym (same (parse_within rest k parser frame))
      by (row_on t q below same) later = same (parse_within rest (suc k) parser frame) ∙ later t q (done_on k s t r q done same) ∙ sym (same (parse_within rest k parser frame))

  -- done, or what stands for the rest is the end
  out_or_done : (k s : ℕ) (r : Reached) → ((within Short k s r ≡ Short) × (within Reject k s r ≡ Reject)) ⊎ Done k s r
  out_or_done zero s r = inl (refl, refl)
  out_or_done (suc k) s r = by (does_at s r) (λ t q. out_or_done k t q)
    where
      by : DoesRow (length parser.states) frame (found s r) r → ((t : ℕ) (q : Reached) → ((within Short k t q ≡ Short) × (within Reject k t q ≡ Reject)) ⊎ Done k t q)
          → ((within Short (suc k) s r ≡ Short) × (within Reject (suc k) s r ≡ Reject)) ⊎ Done (suc k) s r
      by (row_ends end same) later = inr (by_row Short k s r ∙ same (parse_within Short k parser frame) ∙ sym (by_row Reject k s r ∙ same (parse_within Reject k parser frame)))
      by (row_on t q below same) later =
          let short : within Short (suc k) s r ≡ within Short k t q = by_row Short k s r ∙ same (parse_within Short k parser frame) in
          let reject : within Reject (suc k) s r ≡ within Reject k t q = by_row Reject k s r ∙ same (parse_within Reject k parser frame) in
          elim (later t q) [
            | inl out ↦ inl (short ∙ out.0, reject ∙ out.1)
            | inr done ↦ inr (short ∙ done ∙ sym reject)
          ]

-- ---- a joined parser is done as soon

module _ (parser : ParserConfig) (keeps : KeepsForm parser) (at : ℕ) (e : ParserEntry) (m : ℕ) (there : slice_get parser.entries at ≡ Some e) (goes_to : e.next ≡ next.State m) (may : MayJoin parser at e m) (frame : List ℕ) (small : All (λ b. b < 256) frame) where
  abbrev n : ℕ
  n = e.state

  abbrev merged : ℕ → Parse → ℕ → Reached → Parse
  merged k rest s r = parse_within rest k (joined parser at e m) frame s r

  abbrev all_rows : List Row
  all_rows = rows_of parser

  -- a row of the old parser, where the states to come are done as soon
  same_row : (k s : ℕ) (r : Reached) (rest : Parse) → Done parser keeps frame (suc k) s r → ((t : ℕ) (q : Reached) → t < length parser.states → Done parser keeps frame k t q → merged k rest t q ≡ parse_within rest k parser frame t q)
      → row_step (parse_within rest k (joined parser at e m) frame) frame (found parser keeps frame s r) r ≡ row_step (parse_within rest k parser frame) frame (found parser keeps frame s r) r
  same_row k s r rest done later = by (does_at parser keeps frame s r)
    where
      by : DoesRow (length parser.states) frame (found parser keeps frame s r) r
          → row_step (parse_within rest k (joined parser at e m) frame) frame (found parser keeps frame s r) r ≡ row_step (parse_within rest k parser frame) frame (found parser keeps frame s r) r
      by (row_ends end same) = same (parse_within rest k (joined parser at e m) frame) ∙ sym (same (parse_within rest k parser frame))
      by (row_on t q below same) =
          same (parse_within rest k (joined parser at e m) frame) ∙ later t q below (done_on parser keeps frame k s t r q done same) ∙ sym (same (parse_within rest k parser frame))

  -- at the state of the joined entry, whose step leads to the next state
  module _ (r : Reached) (hit : found parser keeps frame n r ≡ Some (record { entry = e; tail = None })) where
    abbrev between : Reached
    between = behind (take e.need (drop r.at frame)) e r

    abbrev in_second : Option Row
    in_second = find (hits m (value_at frame (r.at + e.advance) (slice_get parser.states m))) (rows_in m (rows_of parser))

    second_is : in_second ≡ found parser keeps frame m between
    second_is = find_in m (value_at frame (r.at + e.advance) (slice_get parser.states m)) (rows_of parser)

    -- the step of the entry, where the frame has its bytes
    reaches : (goes : ℕ → Reached → Parse) → r.at + e.need ≤ length frame → step goes frame None (Some e) r ≡ goes m between
    reaches goes whole =
        ap (λ (b : Bool). cond b Short (follow goes e.next between)) (le-ltb (length frame) (r.at + e.need) whole) ∙ ap (λ (to : Next). follow goes to between) goes_to

    done_next : (k : ℕ) → r.at + e.need ≤ length frame → Done parser keeps frame (suc k) n r → Done parser keeps frame k m between
    done_next k whole done =
        let at_m : (rest : Parse) → parse_within rest (suc k) parser frame n r ≡ parse_within rest k parser frame m between =
        λ rest. by_row parser keeps frame rest k n r ∙ ap (λ (o : Option Row). row_step (parse_within rest k parser frame) frame o r) hit ∙ reaches (parse_within rest k parser frame) whole in
        sym (at_m Short) ∙ done ∙ at_m Reject

    second_same : (k : ℕ) (rest : Parse) → Done parser keeps frame k m between
        → ((t : ℕ) (q : Reached) → t < length parser.states → Done parser keeps frame k t q → merged k rest t q ≡ parse_within rest k parser frame t q)
        → row_step (parse_within rest k (joined parser at e m) frame) frame in_second between ≡ parse_within rest k parser frame m between
    second_same zero rest done later = absurd cc
    second_same (suc k) rest done later =
        ap (λ (o : Option Row). row_step (parse_within rest (suc k) (joined parser at e m) frame) frame o between) second_is
        ∙ by (does_at parser keeps frame m between) ∙ sym (by_row parser keeps frame rest k m between)
      where
        by : DoesRow (length parser.states) frame (found parser keeps frame m between) between
            → row_step (parse_within rest (suc k) (joined parser at e m) frame) frame (found parser keeps frame m between) between ≡ row_step (parse_within rest k parser frame) frame (found parser keeps frame m between) between
        by (row_ends end same) = same (parse_within rest (suc k) (joined parser at e m) frame) ∙ sym (same (parse_within rest k parser frame))
        by (row_on t q below same) =
            let early : Done parser keeps frame k t q = done_on parser keeps frame k m t between q done same in
            let late : Done parser keeps frame (suc k) t q = one_more parser keeps frame k t q Short early ∙ early ∙ sym (one_more parser keeps frame k t q Reject early) in
            same (parse_within rest (suc k) (joined parser at e m) frame) ∙ later t q below late ∙ one_more parser keeps frame k t q rest early ∙ sym (same (parse_within rest k parser frame))

    own_joined : (k : ℕ) (rest : Parse) → Done parser keeps frame (suc k) n r
        → ((t : ℕ) (q : Reached) → t < length parser.states → Done parser keeps frame k t q → merged k rest t q ≡ parse_within rest k parser frame t q)
        → cond (nat_lt (length frame) (r.at + e.need)) Short (row_step (parse_within rest k (joined parser at e m) frame) frame in_second between) ≡ step (parse_within rest k parser frame) frame None (Some e) r
    own_joined k rest done later = elim (cases_lt (length frame) (r.at + e.need)) [
      | inl cut ↦
          ap (λ (b : Bool). cond b Short (row_step (parse_within rest k (joined parser at e m) frame) frame in_second between)) (lt-ltb (length frame) (r.at + e.need) cut)
          ∙ sym (ap (λ (b : Bool). cond b Short (follow (parse_within rest k parser frame) e.next between)) (lt-ltb (length frame) (r.at + e.need) cut))
      | inr whole ↦
          ap (λ (b : Bool). cond b Short (row_step (parse_within rest k (joined parser at e m) frame) frame in_second between)) (le-ltb (length frame) (r.at + e.need) whole)
          ∙ second_same k rest (done_next k whole done) later ∙ sym (reaches (parse_within rest k parser frame) whole)
    ]

  -- from any state
  pub joined_within : (k s : ℕ) (r : Reached) (rest : Parse) → s < length parser.states → Done parser keeps frame k s r → merged k rest s r ≡ parse_within rest k parser frame s r
  joined_within zero s r rest below done = absurd cc
  joined_within (suc k) s r rest below done =
      let goes : ℕ → Reached → Parse = parse_within rest k (joined parser at e m) frame in
      let later : (t : ℕ) (q : Reached) → t < length parser.states → Done parser keeps frame k t q → merged k rest t q ≡ parse_within rest k parser frame t q = λ t q lt d. joined_within k t q rest lt d in
      taken_made goes frame s (value_at frame r.at (slice_get (slice_set parser.states n (record { lookups = together (lookups_at parser.states n) e.advance (lookups_at parser.states m) })) s)) r (slice_set parser.states n (record { lookups = together (lookups_at parser.states n) e.advance (lookups_at parser.states m) })) (join_parts parser at e m).rows
      ∙ elim (cases_eq s n) [
        | inl same ↦
            subst (λ t. Done parser keeps frame (suc k) t r → row_step goes frame (find (hits t (value_at frame r.at (slice_get (slice_set parser.states n (record { lookups = together (lookups_at parser.states n) e.advance (lookups_at parser.states m) })) t))) (join_parts parser at e m).rows) r ≡ row_step (parse_within rest k parser frame) frame (found parser keeps frame t r) r) (sym same)
            (λ d.
            ap (λ (o : Option ParserState). row_step goes frame (find (hits n (value_at frame r.at o)) (join_parts parser at e m).rows) r) (get_set_same parser.states n (record { lookups = together (lookups_at parser.states n) e.advance (lookups_at parser.states m) }) (subst (λ t. t < length parser.states) same below))
            ∙ own_rows parser keeps at e m there goes_to may frame small r goes (parse_within rest k parser frame) (same_row k n r rest d later) (λ hit. own_joined r hit k rest d later))
            done
        | inr other ↦
            ap (λ (o : Option ParserState). row_step goes frame (find (hits s (value_at frame r.at o)) (join_parts parser at e m).rows) r) (slice_get-set_other parser.states n s (record { lookups = together (lookups_at parser.states n) e.advance (lookups_at parser.states m) }) other)
            ∙ step_other parser keeps at e m there goes_to may s (value_of parser keeps frame s r) other goes frame r ∙ same_row k s r rest done later
      ]
      ∙ sym (by_row parser keeps frame rest k s r)

-- ---- from one parser to the next

-- a frame that is done within so many states with one parser is so with another
abbrev KeepsPace : ParserConfig → ParserConfig → Type 0
KeepsPace one other = (frame : List ℕ) → All (λ b. b < 256) frame → (count : ℕ) → ParsesWithin one frame count → ParsesWithin other frame count

record IsPaced (one other : ParserConfig) : Type 0 where
  keeps : KeepsForm other
  pace : KeepsPace one other

paced_same : (parser : ParserConfig) → KeepsForm parser → IsPaced parser parser
paced_same parser keeps = record { keeps = keeps; pace = λ frame small count done. done }

paced_on : (one two three : ParserConfig) → IsPaced one two → IsPaced two three → IsPaced one three
paced_on one two three first second = record { keeps = second.keeps; pace = λ frame small count done. second.pace frame small count (first.pace frame small count done) }

paced_joined : (parser : ParserConfig) (keeps : KeepsForm parser) (at : ℕ) (e : ParserEntry) (m : ℕ) → slice_get parser.entries at ≡ Some e → e.next ≡ next.State m → can_join parser at e m ≡ true → IsPaced parser (joined parser at e m)
paced_joined parser keeps at e m there on can =
    let may : MayJoin parser at e m = may_join parser at e m can in
    let first : e.state < length parser.states = (formed_e parser keeps at e m there on may).state_there in
    record {
      keeps = joined_keeps parser keeps at e m there on may;
      pace = λ frame small count done.
          (let step : (rest : Parse) → parse_within rest count (joined parser at e m) frame 0 begin ≡ parse_within rest count parser frame 0 begin =
          λ rest. joined_within parser keeps at e m there on may frame small count 0 begin rest (omega (arith, first)) done in
          step Short ∙ done ∙ sym (step Reject));
    }

paced_stays : (one : ParserConfig) → StaysUnderJoins (IsPaced one)
paced_stays one parser at e m there on can here = paced_on one parser (joined parser at e m) here (paced_joined parser here.keeps at e m there on can)

compact_pace : (parser : ParserConfig) → KeepsForm parser → KeepsPace parser (compact parser)
compact_pace parser keeps frame small count done =
    compact_within parser keeps frame Short count 0 begin (first_met parser keeps) ∙ done ∙ sym (compact_within parser keeps frame Reject count 0 begin (first_met parser keeps))

-- ---- the plain parser

plain_pace : (p : Program) (places : List (List Lane)) → IsProgram p → KeepsApart p places → refusal p ≡ None → KeepsForm (plain p places) → MeetsNoMore (plain p places) p
plain_pace p places good apart fits keeps port frame small count walks_done =
    let start = start_step p places frame port in
    let there : 0 < length p.headers = good.counts.a_header in
    let short : EndsAs places frame (parse_within Short count (plain p places) frame 0 begin) (walk_within walks.Short count p frame 0 (walks.begin p port)) =
    same_within p places good apart fits frame small Short walks.Short refl count 0 begin (walks.begin p port) there start in
    let reject : EndsAs places frame (parse_within Reject count (plain p places) frame 0 begin) (walk_within walks.Reject count p frame 0 (walks.begin p port)) =
    same_within p places good apart fits frame small Reject walks.Reject refl count 0 begin (walks.begin p port) there start in
    elim (out_or_done (plain p places) keeps frame count 0 begin) [
      | inl out ↦
          let a : walk_within walks.Short count p frame 0 (walks.begin p port) ≡ walks.Short = subst (λ (x : Parse). EndsAs places frame x (walk_within walks.Short count p frame 0 (walks.begin p port))) out.0 short in
          let b : walk_within walks.Reject count p frame 0 (walks.begin p port) ≡ walks.Reject = subst (λ (x : Parse). EndsAs places frame x (walk_within walks.Reject count p frame 0 (walks.begin p port))) out.1 reject in
          let no_way : walks.Short ≡ walks.Reject = sym a ∙ walks_done ∙ b in
          absurd cc
      | inr done ↦ done
    ]

pub clustered_pace : (p : Program) (places : List (List Lane)) → IsProgram p → KeepsApart p places → refusal p ≡ None → KeepsForm (plain p places) → MeetsNoMore (clustered p places) p
clustered_pace p places good apart fits keeps port frame small count walks_done =
    let joins : IsPaced (plain p places) (all_joined p (plain p places)) = joins_hold (IsPaced (plain p places)) (paced_stays (plain p places)) p (plain p places) (paced_same (plain p places) keeps) in
    compact_pace (all_joined p (plain p places)) joins.keeps frame small count (joins.pace frame small count (plain_pace p places good apart fits keeps port frame small count walks_done))
