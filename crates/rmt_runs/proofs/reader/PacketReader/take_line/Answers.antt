use Rattle.std.proofs.Common.{◌≡◌, ℕ, ◌++◌, [], length, take, refl, ap, sym, ◌∙◌, arith, length-append}
use Rattle.std.proofs.lemmas.List.{length-take-le, take_all}
use Rattle.rmt_packets.specs.Pieces.{ended_lines}
use Rattle.rmt_runs.specs.ReadsOn.{ReaderState}
use Rattle.rmt_runs.proofs.ReaderLaws.{has_more, has_next, line_taken, none_taken, nothing_behind}
use Rattle.rmt_runs.proofs.reader.PacketReader.take_line.Goals as goal
use Rattle.rmt_runs.proofs.reader.PacketReader.take_line.Goals.{After-skip}

-- the bytes that were taken, and those that wait
split : (c : After-skip) → c.self.inside.piece ≡ take c.take-taken.result.used c.bytes.result.now ++ c.skip.new.self
split c = c.skip.ensures ∙ ap (λ xs. take c.take-taken.result.used xs ++ c.skip.new.self) (sym c.bytes.ensures.waiting)

-- all were taken where they end no line
whole : (c : After-skip) (used : ℕ) → used ≡ length c.bytes.result.now → c.self.inside.piece ≡ take used c.bytes.result.now ++ c.skip.new.self → c.skip.new.self ≡ []
whole c used all s =
    nothing_behind c.bytes.result.now c.skip.new.self (c.bytes.ensures.waiting ∙ s ∙ ap (λ n. take n c.bytes.result.now ++ c.skip.new.self) all)

pub invariant_of-self : goal.invariant_of-self
invariant_of-self c =
    let i = c.self.inside in
    let bytes = c.bytes.result.now in
    let used = c.take-taken.result.used in
    let going = ap (λ r. r.is_finished) c.self.view_is ∙ c.requires in
    let l = length-append (take used bytes) c.skip.new.self in
    let t = length-take-le used bytes c.take-taken.ensures.used in
    (omega (arith, c.self.invariant.0, c.take-taken.ensures.taken, ap length (split c), l, t), has_more i.given i.is_finished i.lines c.take-taken.new.self (take used bytes) going c.self.invariant.1 c.take-taken.ensures.stands)

pub returns-clause-empty : goal.returns-clause-empty
returns-clause-empty c none = whole c c.take-taken.result.used (c.take-taken.ensures.whole none) (split c)

pub returns-clause-one_more : goal.returns-clause-one_more
returns-clause-one_more c is =
    let i = c.self.inside in
    let bytes = c.bytes.result.now in
    let going = ap (λ r. r.is_finished) c.self.view_is ∙ c.requires in
    has_next i.given i.is_finished i.lines c.take-taken.new.self (take c.take-taken.result.used bytes) going c.self.invariant.1 c.take-taken.ensures.stands (λ t s. c.take-taken.ensures.ready t s is)

pub returns-clause-line : goal.returns-clause-line
returns-clause-line c is limit text rest gave h =
    let i = c.self.inside in
    let bytes = c.bytes.result.now in
    let going = ap (λ r. r.is_finished) c.self.view_is ∙ c.requires in
    let old : ReaderState = record { lines = i.lines; waiting = i.piece; left = i.left; is_finished = i.is_finished; given = i.given } in
    let new : ReaderState = record { lines = c.take-taken.new.self; waiting = c.skip.new.self; left = i.left; is_finished = i.is_finished; given = i.given } in
    line_taken limit text rest gave (take c.take-taken.result.used bytes) old new (rw (← c.self.view_is) at h) going going refl (split c) c.take-taken.ensures.stands (λ t s. c.take-taken.ensures.ready t s is)

pub returns-clause-none : goal.returns-clause-none
returns-clause-none c none limit text rest gave h =
    let i = c.self.inside in
    let bytes = c.bytes.result.now in
    let used = c.take-taken.result.used in
    let going = ap (λ r. r.is_finished) c.self.view_is ∙ c.requires in
    let all : take used bytes ≡ bytes = ap (λ n. take n bytes) (c.take-taken.ensures.whole none) ∙ take_all (length bytes) bytes (omega arith) in
    let old : ReaderState = record { lines = i.lines; waiting = i.piece; left = i.left; is_finished = i.is_finished; given = i.given } in
    let new : ReaderState = record { lines = c.take-taken.new.self; waiting = c.skip.new.self; left = i.left; is_finished = i.is_finished; given = i.given } in
    none_taken limit text rest gave (take used bytes) old new (rw (← c.self.view_is) at h) going going refl (split c) c.take-taken.ensures.stands
    (λ t s. ap (λ xs. ended_lines (t ++ xs)) all ∙ c.take-taken.ensures.none t s none)
