-- Joins that are told, and made again.
use Rattle.std.proofs.Common.{◌≡◌, List, [], ◌∷◌, ◌++◌, length, Option, Some, None, refl, ap, ◌∙◌}
use Rattle.std.specs.Prelude.{option_map}
use Rattle.std.specs.Option.{option_and_then}
use Rattle.std.proofs.lemmas.Option.{same_Some}
use Rattle.rmt_bits.specs.declared.lane.Lane.{Lane}
use Rattle.rmt_ptcam.specs.Types.{Program, ParserConfig}
use Rattle.rmt_ptcam.specs.declared.joins.Join.{Join}
use Rattle.rmt_ptcam.specs.Clustering.{clustered, compact, unjoined}
use Rattle.rmt_ptcam.specs.Joining.{join_named}
use Rattle.rmt_ptcam.specs.Joins.{behind_joins, joins, replayed}
use Rattle.rmt_ptcam.specs.Plain.{plain}
use Rattle.rmt_ptcam.proofs.JoinsHold.{headers_hold}

then_joins : (parser q : ParserConfig) (js ks : List Join) → behind_joins parser js ≡ Some q → behind_joins parser (js ++ ks) ≡ behind_joins q ks
then_joins parser q [] ks is = ap (λ (x : ParserConfig). behind_joins x ks) (same_Some parser q is)
then_joins parser q (j ∷ js) ks is = by (join_named parser j) is (λ (x : ParserConfig) e. then_joins x q js ks e)
  where
    by : (o : Option ParserConfig) → option_and_then (λ (x : ParserConfig). behind_joins x js) o ≡ Some q → ((x : ParserConfig) → behind_joins x js ≡ Some q → behind_joins x (js ++ ks) ≡ behind_joins q ks)
        → option_and_then (λ (x : ParserConfig). behind_joins x (js ++ ks)) o ≡ behind_joins q ks
    by None e rest = absurd cc
    by (Some x) e rest = rest x e

-- one join more
one_more : (start parser q : ParserConfig) (js : List Join) (j : Join) → join_named parser j ≡ Some q → behind_joins start js ≡ Some parser → behind_joins start (js ++ j ∷ []) ≡ Some q
one_more start parser q js j named behind = then_joins start parser js (j ∷ []) behind ∙ ap (option_and_then (λ (x : ParserConfig). behind_joins x [])) named

-- the joins of the rule give the clustered parser
pub joins_give : (p : Program) (places : List (List Lane)) → replayed (plain p places) (joins p places) ≡ Some (clustered p places)
joins_give p places =
    let start : ParserConfig = plain p places in
    ap (option_map compact)
    (headers_hold (λ (q : ParserConfig) (js : List Join). behind_joins start js ≡ Some q) (λ (parser q : ParserConfig) (js : List Join) (j : Join) is so_far. one_more start parser q js j is so_far) p (length p.headers) (unjoined start) refl)
