use Rattle.std.specs.Prelude.{Ok}
use Rattle.rmt_lexer.specs.Text.{first_place, tokens_of}
use Rattle.rmt_lexer.proofs.Ends.{Fine, fine}
use Rattle.std.proofs.Common.{rules, ◌≡◌, ◌<◌, length, arith, sym, subst, ◌∙◌, ap, fold, take, drop}
use Rattle.rmt_lexer.specs.Text.{item_of, reading, behind, token_at}
use Rattle.rmt_lexer.specs.declared.item.Item.TheVariants as item
use Rattle.rmt_lexer.proofs.Items.{Within, gap_fits, token_fits}
use Rattle.rmt_lexer.proofs.Reading.{fronts, fronts-push, after_gap, after_token, read_end, read_fault}
use Rattle.rmt_lexer.proofs.reader.tokens.Goals as goal
use Rattle.rmt_lexer.proofs.reader.tokens.Goals.{In-Gap, In-Token}

gap_some : (c : In-Gap) → 0 < length c.loop-rest.rest.now
gap_some c = search rules

gap_is : (c : In-Gap) → item_of c.loop-rest.rest.now ≡ item.Gap c.in-Gap.len
gap_is c = sym c.in_ok-len.ensures ∙ c.in-Gap.is

gap_within : (c : In-Gap) → Within c.in-Gap.len (length c.loop-rest.rest.now)
gap_within c = gap_fits c.loop-rest.rest.now c.in-Gap.len (gap_some c) (gap_is c)

pub split_at-requires : goal.split_at-requires
split_at-requires c = (gap_within c).most

pub loop-rest-smaller-in-Gap : goal.loop-rest-smaller-in-Gap
loop-rest-smaller-in-Gap c =
    let within = gap_within (goal.at.loop-rest-smaller-in-Gap c).In-Gap in
    omega (arith, within.some, c.split_at.ensures.back_len)

pub loop-rest-preserved-in-Gap : goal.loop-rest-preserved-in-Gap
loop-rest-preserved-in-Gap c =
    let w = (goal.at.loop-rest-preserved-in-Gap c).In-Gap in
    let within = gap_within w in
    let same : reading 0 (fold behind c.loop-rest.place (take c.in-Gap.len c.loop-rest.rest.now)) (drop c.in-Gap.len c.loop-rest.rest.now) ≡ reading 0 c.moved-place.result c.split_at.result.1.now =
    cc (c.moved-place.ensures.place, c.split_at.ensures.front, c.split_at.ensures.back) in
    record {
      told = c.loop-rest.invariant.told ∙ ap (fronts c.loop-rest.tokens.items) (after_gap c.loop-rest.place c.loop-rest.rest.now c.in-Gap.len (gap_some w) within.some (gap_is w) ∙ same);
      line = omega (arith, c.moved-place.ensures.line, c.split_at.ensures.front_len, c.split_at.ensures.back_len, c.loop-rest.invariant.line);
      column = omega (arith, c.moved-place.ensures.column, c.split_at.ensures.front_len, c.split_at.ensures.back_len, c.loop-rest.invariant.column);
    }

token_some : (c : In-Token) → 0 < length c.loop-rest.rest.now
token_some c = search rules

token_is : (c : In-Token) → item_of c.loop-rest.rest.now ≡ item.Token c.in-Token.what c.in-Token.len
token_is c = sym c.in_ok-len.ensures ∙ c.in-Token.is

token_within : (c : In-Token) → Within c.in-Token.len (length c.loop-rest.rest.now)
token_within c = token_fits c.loop-rest.rest.now c.in-Token.what c.in-Token.len (token_some c) (token_is c)

pub split_at-requires-in-Token : goal.split_at-requires-in-Token
split_at-requires-in-Token c = (token_within (goal.at.split_at-requires-in-Token c).In-Token).most

pub loop-rest-smaller : goal.loop-rest-smaller
loop-rest-smaller c =
    let within = token_within (goal.at.loop-rest-smaller c).In-Token in
    omega (arith, within.some, c.split_at-in-Token.ensures.back_len)

pub loop-rest-preserved : goal.loop-rest-preserved
loop-rest-preserved c =
    let w = (goal.at.loop-rest-preserved c).In-Token in
    let within = token_within w in
    let same : reading 0 (fold behind c.loop-rest.place (take c.in-Token.len c.loop-rest.rest.now)) (drop c.in-Token.len c.loop-rest.rest.now) ≡ reading 0 c.moved-place-in-Token.result c.split_at-in-Token.result.1.now =
    cc (c.moved-place-in-Token.ensures.place, c.split_at-in-Token.ensures.front, c.split_at-in-Token.ensures.back) in
    record {
      told = c.loop-rest.invariant.told
          ∙ ap (fronts c.loop-rest.tokens.items) (after_token c.loop-rest.place c.loop-rest.rest.now c.in-Token.what c.in-Token.len (token_some w) within.some (token_is w))
          ∙ fronts-push c.loop-rest.tokens.items (token_at c.loop-rest.place c.in-Token.what) _
          ∙ cc (same, c.token_at.ensures, c.in_ok-put-in-Token.ensures.items);
      line = omega (arith, c.moved-place-in-Token.ensures.line, c.split_at-in-Token.ensures.front_len, c.split_at-in-Token.ensures.back_len, c.loop-rest.invariant.line);
      column = omega (arith, c.moved-place-in-Token.ensures.column, c.split_at-in-Token.ensures.front_len, c.split_at-in-Token.ensures.back_len, c.loop-rest.invariant.column);
    }

pub returns-in-Fault-clause-exact : goal.returns-in-Fault-clause-exact
returns-in-Fault-clause-exact c =
    let some : 0 < length c.loop-rest.rest.now = search rules in
    let all = c.loop-rest.invariant.told ∙ read_fault c.loop-rest.tokens.items c.loop-rest.place c.loop-rest.rest.now c.in-Fault.code some (sym c.in_ok-len.ensures ∙ c.in-Fault.is) in
    rw c.fault_at.ensures all

-- the last token is pushed behind the loop
all_read : (c : goal.In_ok-put) → tokens_of c.args.text.now ≡ Ok c.put-2.new.tokens.items
all_read c =
    let none : length c.loop-rest.rest.now ≡ 0 = search rules in
    c.loop-rest.invariant.told ∙ read_end c.loop-rest.tokens.items c.loop-rest.place c.loop-rest.rest.now none ∙ cc (c.token_at-2.ensures, c.in_ok-put.ensures.items)

pub returns-clause-exact : goal.returns-clause-exact
returns-clause-exact c = all_read c

pub returns-clause-ends : goal.returns-clause-ends
returns-clause-ends c = (subst (Fine (length c.args.text.now)) (all_read c) (fine 0 first_place c.args.text.now)).0
