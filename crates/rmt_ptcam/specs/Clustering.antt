-- The clustered parser of a program: headers of one step.
use Rattle.std.specs.Prelude.{ℕ, zero, suc, ◌+◌, List, [], ◌∷◌, ◌++◌, Bool, false, ◌||◌, ◌==◌, if◌then◌else◌, Option, Some, None, Result, map, fold, length}
use Rattle.std.specs.List.{filter, flat_map, range_with_len}
use Rattle.rmt_bits.specs.declared.lane.Lane.{Lane}
use Rattle.rmt_bits.specs.Members.{is_among}
use Rattle.rmt_ptcam.specs.Types.{Program, Header, Case, Target, ParserConfig, ParserState, ParserEntry, Next}
use Rattle.rmt_ast.specs.declared.program.Target.TheVariants as target
use Rattle.rmt_config.specs.declared.config.Next.TheVariants as next
use Rattle.rmt_ptcam.specs.declared.fault.ParserFault.{ParserFault}
use Rattle.rmt_ptcam.specs.Needs.{refusal, unless}
use Rattle.rmt_ptcam.specs.Plain.{plain}
use Rattle.rmt_ptcam.specs.declared.joins.Join.{Join}
use Rattle.rmt_ptcam.specs.Joining.{Row, entries_in, entries_to, entry_named, join_named, parser_of, rows_of}

-- ---- joins

-- the targets of a header's cases and else
abbrev pub targets_of : Header → List Target
targets_of h = map (λ (c : Case). c.target) h.cases ++ h.other ∷ []

abbrev pub goes_to : ℕ → Target → Bool
goes_to m target.Accept = false
goes_to m target.Reject = false
goes_to m (target.Node k) = k == m

-- how many cases and elses of a program go to header m
abbrev pub arrivals : Program → ℕ → ℕ
arrivals p m = length (filter (goes_to m) (flat_map targets_of p.headers))

-- one entry stands for header m, or one case or else alone goes to it
abbrev pub is_wanted : Program → ParserConfig → Next → Bool
is_wanted p parser next.Accept = false
is_wanted p parser next.Reject = false
is_wanted p parser (next.State m) = (length (entries_in m parser.entries) == 1) || (arrivals p m == 1)

-- how far clustering has come: the parser, the joins that were made, in order, and how many entries of a state are behind
pub record Clustering : Type 0 where
  pub parser : ParserConfig
  pub joins : List Join
  pub behind : ℕ

-- no join of a parser is made yet
abbrev pub unjoined : ParserConfig → Clustering
unjoined parser = record { parser = parser; joins = []; behind = 0 }

-- behind one more entry, or behind those of the next state, which stand for an entry that is joined
abbrev pub behind_join : Clustering → Join → Next → Option ParserConfig → Clustering
behind_join c j to None = record c { behind = c.behind + 1 }
behind_join c j to (Some q) = record { parser = q; joins = c.joins ++ j ∷ []; behind = c.behind + length (entries_to c.parser to) }

-- an entry, joined where it is wanted and can be
abbrev pub one_entry : Program → Clustering → Join → Option ParserEntry → Clustering
one_entry p c j None = c
one_entry p c j (Some e) = behind_join c j e.next (if is_wanted p c.parser e.next then join_named c.parser j else None)

-- the state's entry that is looked at next
abbrev pub next_entry : Program → ℕ → Clustering → Clustering
next_entry p n c = let j : Join = record { state = n; entry = c.behind } in one_entry p c j (entry_named c.parser j)

-- so many entries of state n, one after another
abbrev pub some_entries : Program → ℕ → ℕ → Clustering → Clustering
some_entries p n zero c = c
some_entries p n (suc count) c = some_entries p n count (next_entry p n c)

-- the entries of header n, from the first to the last
abbrev pub one_header : Program → ℕ → Clustering → Clustering
one_header p n c = some_entries p n (length (entries_in n c.parser.entries)) (record c { behind = 0 })

-- so many headers, from the last to the first
abbrev pub some_headers : Program → ℕ → Clustering → Clustering
some_headers p zero c = c
some_headers p (suc n) c = some_headers p n (one_header p n c)

-- all headers of a program
abbrev pub all_headers : Program → ParserConfig → Clustering
all_headers p parser = some_headers p (length p.headers) (unjoined parser)

abbrev pub all_joined : Program → ParserConfig → ParserConfig
all_joined p parser = (all_headers p parser).parser

-- ---- states that are met

-- the states that are met, and the one that is gone to, each once
abbrev pub with_next : List ℕ → Next → List ℕ
with_next met next.Accept = met
with_next met next.Reject = met
with_next met (next.State s) = if is_among met s then met else met ++ s ∷ []

-- the states that can be met: the first one, and those that an entry of a met state goes to; entries stand by state and go to later states
abbrev pub met_states : List ParserEntry → List ℕ
met_states es = fold (λ (met : List ℕ) (e : ParserEntry). if is_among met e.state then with_next met e.next else met) (0 ∷ []) es

abbrev pub is_met : ParserConfig → ℕ → Bool
is_met parser s = is_among (met_states parser.entries) s

-- the number of a state among those that pass
abbrev pub number_in : (ℕ → Bool) → ℕ → ℕ
number_in met s = length (filter met (range_with_len 0 s))

abbrev pub renamed_next : (ℕ → Bool) → Next → Next
renamed_next met next.Accept = next.Accept
renamed_next met next.Reject = next.Reject
renamed_next met (next.State s) = next.State (number_in met s)

-- a row by the new numbers
abbrev pub renamed : (ℕ → Bool) → Row → Row
renamed met x = record x { entry = record x.entry { state = number_in met x.entry.state; next = renamed_next met x.entry.next } }

-- the states that pass, the first of which has number n
abbrev pub states_kept : (ℕ → Bool) → ℕ → List ParserState → List ParserState
states_kept met n [] = []
states_kept met n (s ∷ ss) = if met n then s ∷ states_kept met (n + 1) ss else states_kept met (n + 1) ss

-- the parser without states that can't be met, the others numbered in order
abbrev pub compact : ParserConfig → ParserConfig
compact parser =
    parser_of (states_kept (is_met parser) 0 parser.states) (map (renamed (is_met parser)) (filter (λ (x : Row). is_met parser x.entry.state) (rows_of parser)))

-- ---- the clustered parser

abbrev pub clustered : Program → List (List Lane) → ParserConfig
clustered p places = compact (all_joined p (plain p places))

-- the clustered parser, or why there is none
abbrev pub clustered_or : Program → List (List Lane) → Result ParserConfig ParserFault
clustered_or p places = unless (refusal p) (clustered p places)
