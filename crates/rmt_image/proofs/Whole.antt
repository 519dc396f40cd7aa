-- The whole image, and its laws: what is read is spelled so, and what is spelled so is read.
use Rattle.std.proofs.Common.{◌≡◌, ℕ, zero, suc, Bool, true, false, ◌&&◌, cond, ltb, eqb, List, [], ◌∷◌, ◌++◌, length, drop, Option, Some, None, Result, Ok, Err, refl, sym, ap, subst, ◌∙◌, append_assoc, arith, inl, inr, ◌⊎◌}
use Rattle.std.specs.Prelude.{codes, nat_eq, is_some, ◌||◌, ◌≢◌, IfOk}
use Rattle.std.specs.List.{starts_with}
use Rattle.std.proofs.lemmas.Bool.{eqb-true, le-leb, and_parts, and_from}
use Rattle.std.proofs.lemmas.List.{append-nil}
use Rattle.rmt_bits.proofs.ByteLaws.{AreBytes, AreBytes-drop}
use Rattle.rmt_bits.proofs.TestLaws.{split4, split5}
use Rattle.rmt_ast.specs.declared.names.Names.{Names}
use Rattle.rmt_image.specs.Types.{Config, OutHeader, ParserConfig, Stage, TailOf}
use Rattle.rmt_config.specs.declared.limits.LimitHit.{LimitHit}
use Rattle.rmt_config.specs.LaneForm.{is_lane_of, ports_are_formed, headers_are_formed}
use Rattle.rmt_config.specs.ParserForm.{states_are_formed, entries_are_formed, parser_is_formed}
use Rattle.rmt_config.specs.TailForm.{tails_are_formed, tails_have_headers}
use Rattle.rmt_config.specs.StageForm.{stages_are_formed}
use Rattle.rmt_config.specs.Form.{items_are_formed, names_are_fit, Formed}
use Rattle.rmt_config.specs.Limits.{IsWithinLimits}
use Rattle.rmt_config.specs.Spelling.{two_bytes, spelled_list8, spelled_list16, spelled_lane, spelled_header, spelled_parser, spelled_stage, spelled_ports, spelled_config}
use Rattle.rmt_config.specs.ImageSpelling.{spelled_table, spelled_tail, spelled_names, spelled_tails, version_with, version_of, spelled_image}
use Rattle.rmt_config.specs.Spells.{Spells}
use Rattle.rmt_items.specs.declared.fault.ImageFault.{ImageFault}
use Rattle.rmt_items.specs.declared.fault.ImageFault.TheVariants as image
use Rattle.rmt_items.specs.declared.fault.ReadFault.{ReadFault}
use Rattle.rmt_items.specs.declared.fault.ReadFault.TheVariants.{Short, Form}
use Rattle.rmt_image.specs.declared.reading.config.Ports.{Ports}
use Rattle.rmt_items.specs.Readers.{at_least}
use Rattle.rmt_image.specs.Reading.{ports_of_parts, ports_at, config_of_parts, config_at, config_with_names, named_at, config_with_tails, tailed_at, image_at, version_told, WholeAnswers, EndAnswers, ConfigAnswers, VersionAnswers, MagicAnswers, Answers}
use Rattle.rmt_items.proofs.Codec.{Codec, codec_behind, codec_made, codec_made_known, byte_codec}
use Rattle.rmt_items.proofs.Items.{lane_of_codec, headers_codec, parser_codec}
use Rattle.rmt_items.proofs.Stages.{stages_codec}
use Rattle.rmt_items.proofs.NameItems.{NamesKeep, names_codec}
use Rattle.rmt_items.proofs.TailItems.{tails_codec, tails_keep}
use Rattle.rmt_items.proofs.NamesCounts.{names_keep}
use Rattle.rmt_bits.proofs.ListLaws.{begins}

-- ---- the configuration

abbrev ports_text : Ports → List ℕ
ports_text p = (p.seed ∷ []) ++ (spelled_lane p.in_port ++ (spelled_lane p.out_port ++ spelled_lane p.drop))

abbrev PortsKeep : Ports → Type 0
PortsKeep p = Unit {0} × ((is_lane_of 9 p.in_port ≡ true) × ((is_lane_of 9 p.out_port ≡ true) × (is_lane_of 1 p.drop ≡ true)))

ports_codec : Codec ports_at ports_text PortsKeep (λ _. Unit {0})
unfolding ports_at
ports_codec =
    codec_made ports_of_parts (codec_behind byte_codec (λ _. codec_behind (lane_of_codec 9) (λ _. codec_behind (lane_of_codec 9) (λ _. lane_of_codec 1))))
    ports_text PortsKeep (λ a r. refl) (λ p q. ((p.seed, (p.in_port, (p.out_port, p.drop))), refl, refl, q))

abbrev Parts : Type 0
Parts = Ports × (List OutHeader × (ParserConfig × List Stage))

abbrev config_parts : Config → Parts
config_parts c = (record { seed = c.seed; in_port = c.in_port; out_port = c.out_port; drop = c.drop }, (c.headers, (c.parser, c.stages)))

config_text : (a : Parts) → ports_text a.0 ++ (spelled_list8 spelled_header a.1.0 ++ (spelled_parser a.1.1.0 ++ spelled_list8 spelled_stage a.1.1.1)) ≡ spelled_config (config_of_parts a)
config_text a =
    let ports = spelled_ports (config_of_parts a) in
    let headers = spelled_list8 spelled_header a.1.0 in
    let parser = spelled_parser a.1.1.0 in
    let stages = spelled_list8 spelled_stage a.1.1.1 in
    sym (append_assoc ports headers (parser ++ stages)) ∙ sym (append_assoc (ports ++ headers) parser stages)

-- a configuration without names and tails is its parts
config_whole : (c : Config) → c.names ≡ None → config_of_parts (config_parts c) ≡ c
config_whole c none = ap (λ (names : Option Names). record c { names = names }) (sym none)

-- what the items of a configuration keep
record ItemsKeep (c : Config) : Type 0 where
  pub ports : ports_are_formed c ≡ true
  pub headers : headers_are_formed c.headers ≡ true
  pub parser : parser_is_formed c.parser ≡ true
  pub tails : tails_have_headers c ≡ true
  pub stages : stages_are_formed c.stages ≡ true

items_keep : (c : Config) → items_are_formed c ≡ true → ItemsKeep c
items_keep c formed = let p = split5 formed in record { ports = p.0; headers = p.1; parser = p.2; tails = p.3; stages = p.4 }

-- a configuration that has neither names nor tails
record IsPlain (c : Config) : Type 0 where
  pub names : c.names ≡ None
  pub tails : c.parser.tails ≡ []

config_back : (c : Config) → ItemsKeep c × IsPlain c
    → PortsKeep (config_parts c).0 × ((headers_are_formed c.headers ≡ true) × (((parser_is_formed c.parser ≡ true) × (c.parser.tails ≡ [])) × (stages_are_formed c.stages ≡ true)))
config_back c keeps =
    let q : (ltb c.seed 256 ≡ true) × (is_lane_of 9 c.in_port ≡ true) × (is_lane_of 9 c.out_port ≡ true) × (is_lane_of 1 c.drop ≡ true) = split4 keeps.0.ports in
    ((tt, (q.1, (q.2, q.3))), (keeps.0.headers, ((keeps.0.parser, keeps.1.tails), keeps.0.stages)))

config_codec : Codec config_at spelled_config (λ c. ItemsKeep c × IsPlain c) IsPlain
unfolding config_at
config_codec =
    codec_made_known config_of_parts (codec_behind ports_codec (λ _. codec_behind headers_codec (λ _. codec_behind parser_codec (λ _. stages_codec))))
    spelled_config (λ c. ItemsKeep c × IsPlain c) IsPlain (λ a r. (config_text a, record { names = refl; tails = r.1.1.0 }))
    (λ c keeps. (config_parts c, config_whole c keeps.1.names, config_text (config_parts c), config_back c keeps))

-- ---- names and tails behind it

-- what stands behind the version
abbrev body_text : Config → List ℕ
body_text c = spelled_config c ++ spelled_names c.names ++ spelled_tails c.parser.tails

-- names that are read from their spelling, where there are names
abbrev OwnNamesKeep : Option Names → Type 0
OwnNamesKeep None = Unit {0}
OwnNamesKeep (Some names) = NamesKeep names

-- what a configuration keeps that is read from its spelling
record Keeps (c : Config) : Type 0 where
  pub items : ItemsKeep c
  pub names : OwnNamesKeep c.names

-- version 1
plain_text : (c : Config) → IsPlain c → spelled_config c ≡ body_text c
plain_text c plain = rw (plain.names, plain.tails) (sym (append-nil (spelled_config c ++ []) ∙ append-nil (spelled_config c)))

plain_codec : Codec config_at body_text (λ c. Keeps c × IsPlain c) IsPlain
plain_codec = record {
  takes = λ bytes c rest fits e.
      let t = config_codec.takes bytes c rest fits e in
      record { parts = t.parts ∙ ap (λ (text : List ℕ). text ++ rest) (plain_text c t.fact); rest_fits = t.rest_fits; fact = t.fact };
  again = λ c rest keeps. ap (λ (text : List ℕ). config_at (text ++ rest)) (sym (plain_text c keeps.1)) ∙ config_codec.again c rest (keeps.0.items, keeps.1);
}

-- a configuration without its names and tails, and one without its tails
abbrev without_tails : Config → Config
without_tails c = record c { parser = record c.parser { tails = [] } }

abbrev bare : Config → Config
bare c = record c { parser = record c.parser { tails = [] }; names = None }

-- version 2
record IsNamed (c : Config) : Type 0 where
  pub named : (names : Names) × (c.names ≡ Some names)
  pub tails : c.parser.tails ≡ []

bare_parser : (p : ParserConfig) → parser_is_formed p ≡ true → parser_is_formed (record p { tails = [] }) ≡ true
bare_parser p formed =
    let kept = and_parts (states_are_formed p.states && entries_are_formed p) (tails_are_formed p) formed in
    and_from (states_are_formed p.states && entries_are_formed p) true kept.0 refl

bare_keeps : (c : Config) → ItemsKeep c → ItemsKeep (bare c)
bare_keeps c keeps =
    record { ports = keeps.ports; headers = keeps.headers; parser = bare_parser c.parser keeps.parser; tails = refl; stages = keeps.stages }

named_text : (a : Config × Names) → a.0.parser.tails ≡ [] → spelled_config a.0 ++ spelled_list8 spelled_table a.1.tables ≡ body_text (config_with_names a)
named_text a none = rw none (sym (append-nil (spelled_config a.0 ++ spelled_list8 spelled_table a.1.tables)))

-- a configuration without tails is what is made of the rest and the names
named_whole : (c : Config) (names : Names) → c.names ≡ Some names → c.parser.tails ≡ [] → config_with_names (bare c, names) ≡ c
named_whole c names named none =
    ap (λ (tails : List TailOf). record c { parser = record c.parser { tails = tails }; names = Some names }) (sym none)
    ∙ ap (λ (own : Option Names). record c { names = own }) (sym named)

named_codec : Codec named_at body_text (λ c. Keeps c × IsNamed c) IsNamed
unfolding named_at
named_codec =
    codec_made_known config_with_names (codec_behind config_codec (λ _. names_codec)) body_text (λ c. Keeps c × IsNamed c) IsNamed
    (λ a r. (named_text a r.0.tails, record { named = (a.1, refl); tails = r.0.tails }))
    (λ c keeps.
    let names = keeps.1.named.0 in
    let whole = named_whole c names keeps.1.named.1 keeps.1.tails in (
      (bare c, names),
      whole,
      named_text (bare c, names) refl ∙ ap body_text whole,
      ((bare_keeps c keeps.0.items, record { names = refl; tails = refl }), subst OwnNamesKeep keeps.1.named.1 keeps.0.names),
    ))

-- version 3
record IsTailed (c : Config) : Type 0 where
  pub named : (names : Names) × (c.names ≡ Some names)
  pub tails : at_least 1 (length c.parser.tails) ≡ true

listed_tails : (ts : List TailOf) → at_least 1 (length ts) ≡ true → spelled_list16 spelled_tail ts ≡ spelled_tails ts
listed_tails [] some = absurd cc
listed_tails (t ∷ ts) some = refl

tailed_text : (a : Config × List TailOf) → a.0.parser.tails ≡ [] → at_least 1 (length a.1) ≡ true
    → body_text a.0 ++ spelled_list16 spelled_tail a.1 ≡ body_text (config_with_tails a)
tailed_text a none some =
    ap (λ (ts : List TailOf). spelled_config a.0 ++ spelled_names a.0.names ++ spelled_tails ts ++ spelled_list16 spelled_tail a.1) none
    ∙ ap (λ (text : List ℕ). text ++ spelled_list16 spelled_tail a.1) (append-nil (spelled_config a.0 ++ spelled_names a.0.names))
    ∙ ap (λ (text : List ℕ). spelled_config a.0 ++ spelled_names a.0.names ++ text) (listed_tails a.1 some)

without_tails_keeps : (c : Config) → Keeps c → Keeps (without_tails c)
without_tails_keeps c keeps =
    record {
      items = record { ports = keeps.items.ports; headers = keeps.items.headers; parser = bare_parser c.parser keeps.items.parser; tails = refl; stages = keeps.items.stages };
      names = keeps.names;
    }

tailed_codec : Codec tailed_at body_text (λ c. Keeps c × IsTailed c) IsTailed
unfolding tailed_at
tailed_codec =
    codec_made_known config_with_tails (codec_behind named_codec (λ (c : Config). tails_codec c.parser.entries (length c.headers))) body_text (λ c. Keeps c × IsTailed c) IsTailed
    (λ a r. (tailed_text a r.0.tails r.1, record { named = r.0.named; tails = r.1 }))
    (λ c keeps. (
      (without_tails c, c.parser.tails),
      refl,
      tailed_text (without_tails c, c.parser.tails) refl keeps.1.tails,
      (
        (without_tails_keeps c keeps.0, record { named = keeps.1.named; tails = refl }),
        tails_keep c keeps.0.items.parser keeps.0.items.tails keeps.1.tails,
      ),
    ))

-- ---- the versions

-- a configuration of each version
abbrev IsOf : ℕ → Config → Type 0
IsOf zero c = ⊥
IsOf (suc zero) c = IsPlain c
IsOf (suc (suc zero)) c = IsNamed c
IsOf (suc (suc (suc zero))) c = IsTailed c
IsOf (suc (suc (suc (suc n)))) c = ⊥

abbrev Known : ℕ → Type 0
Known version = (version ≡ 1) ⊎ ((version ≡ 2) ⊎ (version ≡ 3))

abbrev VersionCodec : ℕ → Type 0
VersionCodec version = Codec (image_at version) body_text (λ c. Keeps c × IsOf version c) (IsOf version)

codec_1 : VersionCodec 1
unfolding image_at
codec_1 = plain_codec

codec_2 : VersionCodec 2
unfolding image_at
codec_2 = named_codec

codec_3 : VersionCodec 3
unfolding image_at
codec_3 = tailed_codec

version_codec : (version : ℕ) → Known version → VersionCodec version
version_codec version (inl is) = subst VersionCodec (sym is) codec_1
version_codec version (inr (inl is)) = subst VersionCodec (sym is) codec_2
version_codec version (inr (inr is)) = subst VersionCodec (sym is) codec_3

tailed_version : (names : Names) (ts : List TailOf) → at_least 1 (length ts) ≡ true → version_with (Some names) ts ≡ 3
tailed_version names [] some = absurd cc
tailed_version names (t ∷ ts) some = refl

-- a configuration of a version is spelled in it
version_is : (version : ℕ) (c : Config) → IsOf version c → version_of c ≡ version
version_is zero c is = absurd is
version_is (suc zero) c is = rw (is.names, is.tails) refl
version_is (suc (suc zero)) c is = rw (is.named.1, is.tails) refl
version_is (suc (suc (suc zero))) c is = ap (λ (names : Option Names). version_with names c.parser.tails) is.named.1 ∙ tailed_version is.named.0 c.parser.tails is.tails
version_is (suc (suc (suc (suc n)))) c is = absurd is

-- a version, and that a configuration is of it
abbrev HasVersion : Config → Type 0
HasVersion c = (version : ℕ) × Known version × IsOf version c

or_false : (b : Bool) → (b || false) ≡ true → b ≡ true
or_false true e = refl
or_false false e = absurd cc

version_from : (c : Config) (names : Option Names) (ts : List TailOf) → c.names ≡ names → c.parser.tails ≡ ts → (eqb (length ts) 0 || is_some names) ≡ true → HasVersion c
version_from c None [] e f with_names = (1, inl refl, record { names = e; tails = f })
version_from c (Some names) [] e f with_names = (2, inr (inl refl), record { named = (names, e); tails = f })
version_from c None (t ∷ ts) e f with_names = absurd (omega (arith, eqb-true (length (t ∷ ts)) 0 (or_false (eqb (length (t ∷ ts)) 0) with_names)))
version_from c (Some names) (t ∷ ts) e f with_names = (3, inr (inr refl), record { named = (names, e); tails = ap (λ (xs : List TailOf). at_least 1 (length xs)) f ∙ le-leb 1 (length (t ∷ ts)) (omega arith) })

own_names_keep : (c : Config) → items_are_formed c ≡ true → (names : Option Names) → names_are_fit c names ≡ true → OwnNamesKeep names
own_names_keep c items None fit = tt
own_names_keep c items (Some names) fit = names_keep c items names fit

-- what is read of a configuration that keeps the rules of form
record IsRead (c : Config) : Type 0 where
  pub known : Known (version_of c)
  pub read : image_at (version_of c) (body_text c) ≡ Ok (c, [])

is_read : (c : Config) → Formed c → IsRead c
is_read c formed =
    let v = version_from c c.names c.parser.tails refl refl formed.whole.tails in
    let is : version_of c ≡ v.0 = version_is v.0 c v.2 in
    let keeps : Keeps c = record { items = items_keep c formed.items; names = own_names_keep c formed.items c.names formed.whole.names } in
    let again = (version_codec v.0 v.1).again c [] (keeps, v.2) in
    record {
      known = subst Known (sym is) v.1;
      read = ap (λ (version : ℕ). image_at version (body_text c)) is ∙ ap (image_at v.0) (sym (append-nil (body_text c))) ∙ again;
    }

-- ---- what an answer says

abbrev one_answer : Config → Result Config ImageFault
one_answer c = Ok c

abbrev one_version : ℕ → Option ℕ
one_version version = Some version

-- a version that bytes begin with
record Told (bytes : List ℕ) (version : ℕ) : Type 0 where
  pub known : Known version
  pub begins_so : starts_with nat_eq bytes (0 ∷ version ∷ []) ≡ true

abbrev begins_with : List ℕ → ℕ → Bool
begins_with bytes version = starts_with nat_eq bytes (0 ∷ version ∷ [])

version_same : (n version : ℕ) → one_version n ≡ one_version version → n ≡ version
version_same n version e = cc

told_by : (bytes : List ℕ) (version : ℕ) (first second third : Bool) → begins_with bytes 1 ≡ first → begins_with bytes 2 ≡ second → begins_with bytes 3 ≡ third
    → cond first (one_version 1) (cond second (one_version 2) (cond third (one_version 3) None)) ≡ one_version version → Told bytes version
told_by bytes version true second third e1 e2 e3 is = subst (Told bytes) (version_same 1 version is) (record { known = inl refl; begins_so = e1 })
told_by bytes version false true third e1 e2 e3 is = subst (Told bytes) (version_same 2 version is) (record { known = inr (inl refl); begins_so = e2 })
told_by bytes version false false true e1 e2 e3 is = subst (Told bytes) (version_same 3 version is) (record { known = inr (inr refl); begins_so = e3 })
told_by bytes version false false false e1 e2 e3 is = absurd cc

told_of : (bytes : List ℕ) (version : ℕ) → version_told bytes ≡ one_version version → Told bytes version
told_of bytes version is = told_by bytes version (begins_with bytes 1) (begins_with bytes 2) (begins_with bytes 3) refl refl refl is

version_bytes : (version : ℕ) → Known version → 0 ∷ version ∷ [] ≡ two_bytes version
version_bytes version (inl is) = rw is refl
version_bytes version (inr (inl is)) = rw is refl
version_bytes version (inr (inr is)) = rw is refl

told_again : (version : ℕ) → Known version → (rest : List ℕ) → version_told (two_bytes version ++ rest) ≡ one_version version
told_again version (inl is) rest = rw is refl
told_again version (inr (inl is)) rest = rw is refl
told_again version (inr (inr is)) rest = rw is refl

-- a configuration that was read behind a version, with nothing behind it
record Read (bytes : List ℕ) (c : Config) : Type 0 where
  pub version : ℕ
  pub told : Told bytes version
  pub read : image_at version (drop 2 bytes) ≡ Ok (c, [])
  pub formed : Formed c
  pub limits : IsWithinLimits c

whole_ok : (bytes : List ℕ) (version : ℕ) → Told bytes version → (c d : Config) → image_at version (drop 2 bytes) ≡ Ok (c, []) → WholeAnswers c (Ok d) → Read bytes d
whole_ok bytes version begins c d read told =
    subst (λ (e : Config). Read bytes e) (sym told.0) (record { version = version; told = begins; read = read; formed = told.1; limits = told.2 })

end_ok : (bytes : List ℕ) (version : ℕ) → Told bytes version → (c d : Config) (rest : List ℕ) → image_at version (drop 2 bytes) ≡ Ok (c, rest) → EndAnswers (c, rest) (Ok d) → Read bytes d
end_ok bytes version begins c d [] read told = whole_ok bytes version begins c d read told
end_ok bytes version begins c d (byte ∷ rest) read told = absurd cc

config_ok : (bytes : List ℕ) (version : ℕ) → Told bytes version → (r : Result (Config × List ℕ) ReadFault) (d : Config) → image_at version (drop 2 bytes) ≡ r → ConfigAnswers r (Ok d) → Read bytes d
config_ok bytes version begins (Err Short) d read told = absurd cc
config_ok bytes version begins (Err Form) d read told = absurd cc
config_ok bytes version begins (Ok x) d read told = end_ok bytes version begins x.0 d x.1 read told

version_ok : (bytes : List ℕ) (version : Option ℕ) (d : Config) → version_told bytes ≡ version → VersionAnswers version (drop 2 bytes) (Ok d) → Read bytes d
version_ok bytes None d is told = absurd cc
version_ok bytes (Some version) d is told = config_ok bytes version (told_of bytes version is) (image_at version (drop 2 bytes)) d refl told

magic_ok : (begins_so : Bool) (bytes : List ℕ) (d : Config) → MagicAnswers begins_so bytes (Ok d) → (begins_so ≡ true) × Read bytes d
magic_ok true bytes d told = (refl, version_ok bytes (version_told bytes) d refl told)
magic_ok false bytes d told = absurd cc

-- ---- the laws

image_text : (c : Config) → codes "RMTI" ++ (two_bytes (version_of c) ++ body_text c) ≡ spelled_image c
image_text c = refl

-- what is read is spelled so, is formed and is within the limits
pub image_takes : (bytes : List ℕ) (c : Config) → AreBytes bytes → Answers bytes (Ok c) → Spells bytes c
image_takes bytes c fits told =
    let p = magic_ok (starts_with nat_eq bytes (codes "RMTI")) (drop 4 bytes) c told in
    let q = p.1 in
    let t = (version_codec q.version q.told.known).takes (drop 2 (drop 4 bytes)) c [] (AreBytes-drop 2 (drop 4 bytes) (AreBytes-drop 4 bytes fits)) q.read in
    let body : drop 2 (drop 4 bytes) ≡ body_text c = t.parts ∙ append-nil (body_text c) in
    let version : 0 ∷ q.version ∷ [] ≡ two_bytes (version_of c) = version_bytes q.version q.told.known ∙ ap two_bytes (sym (version_is q.version c t.fact)) in
    let behind_letters : drop 4 bytes ≡ two_bytes (version_of c) ++ body_text c =
    begins (drop 4 bytes) (0 ∷ q.version ∷ []) q.told.begins_so ∙ ap (λ (rest : List ℕ). 0 ∷ q.version ∷ rest) body ∙ ap (λ (front : List ℕ). front ++ body_text c) version in
    let all : bytes ≡ spelled_image c = begins bytes (codes "RMTI") p.0 ∙ ap (λ (rest : List ℕ). codes "RMTI" ++ rest) behind_letters ∙ image_text c in
    record { spelled = all; formed = q.formed; limits = q.limits }

-- the answers to what spells a configuration that keeps the rules of form are those of its whole rules
whole_from : (c : Config) → Formed c → (answer : Result Config ImageFault) → Answers (spelled_image c) answer → WholeAnswers c answer
whole_from c formed answer here =
    let r = is_read c formed in
    let told : VersionAnswers (Some (version_of c)) (body_text c) answer =
    subst (λ (version : Option ℕ). VersionAnswers version (body_text c) answer) (told_again (version_of c) r.known (body_text c)) here in
    subst (λ (x : Result (Config × List ℕ) ReadFault). ConfigAnswers x answer) r.read told

whole_to : (c : Config) → Formed c → (answer : Result Config ImageFault) → WholeAnswers c answer → Answers (spelled_image c) answer
whole_to c formed answer whole =
    let r = is_read c formed in
    let told : VersionAnswers (Some (version_of c)) (body_text c) answer = subst (λ (x : Result (Config × List ℕ) ReadFault). ConfigAnswers x answer) (sym r.read) whole in
    subst (λ (version : Option ℕ). VersionAnswers version (body_text c) answer) (sym (told_again (version_of c) r.known (body_text c))) told

abbrev one_hit : LimitHit → Option LimitHit
one_hit hit = Some hit

abbrev limit_answer : LimitHit → Result Config ImageFault
limit_answer hit = Err (image.Limit hit)

hit_is : (hit second : LimitHit) → one_hit hit ≡ one_hit second → hit ≡ second
hit_is hit second e = cc

-- a configuration that keeps the rules and the limits is the only answer
whole_again : (c : Config) → Formed c → IsWithinLimits c → (answer : Result Config ImageFault) → WholeAnswers c answer → answer ≡ Ok c
whole_again c formed limits (Ok d) told = ap one_answer told.0
whole_again c formed limits (Err image.Form) told = absurd (told formed)
whole_again c formed limits (Err (image.Limit hit)) told = let no_hit : None ≡ one_hit hit = sym limits ∙ told.1 in absurd cc
whole_again c formed limits (Err image.NoMemory) told = absurd told
whole_again c formed limits (Err image.Magic) told = absurd told
whole_again c formed limits (Err image.Version) told = absurd told
whole_again c formed limits (Err image.Short) told = absurd told
whole_again c formed limits (Err image.Trailing) told = absurd told

-- what is spelled so is read
pub image_again : (bytes : List ℕ) (c : Config) → Spells bytes c → (answer : Result Config ImageFault) → Answers bytes answer → answer ≡ Ok c
image_again bytes c spells answer told =
    let here : Answers (spelled_image c) answer = subst (λ (b : List ℕ). Answers b answer) spells.spelled told in
    whole_again c spells.formed spells.limits answer (whole_from c spells.formed answer here)

-- the configuration that bytes spell answers them
pub image_answers : (bytes : List ℕ) (c : Config) → Spells bytes c → Answers bytes (Ok c)
image_answers bytes c spells =
    subst (λ (b : List ℕ). Answers b (Ok c)) (sym spells.spelled) (whole_to c spells.formed (Ok c) (refl, spells.formed, spells.limits))

pub is_found : (bytes : List ℕ) (r : Result Config ImageFault) → AreBytes bytes → (r ≢ Err image.NoMemory → Answers bytes r) → IfOk r (λ c. Spells bytes c)
is_found bytes (Ok c) fits given = image_takes bytes c fits (given (λ e. cc))
is_found bytes (Err f) fits given = tt

pub spelled_once : (bytes : List ℕ) (c d : Config) → Spells bytes c → Spells bytes d → c ≡ d
spelled_once bytes c d one other = answer_is c d (image_again bytes d other (one_answer c) (image_answers bytes c one))
  where
    answer_is : (a b : Config) → one_answer a ≡ one_answer b → a ≡ b
    answer_is a b e = cc

-- ---- each image has one answer

whole_once : (c : Config) (a b : Result Config ImageFault) → WholeAnswers c a → WholeAnswers c b → a ≡ b
whole_once c (Ok d) b told other = ap one_answer told.0 ∙ sym (whole_again c told.1 told.2 b other)
whole_once c (Err image.Form) (Ok d) told other = absurd (told other.1)
whole_once c (Err image.Form) (Err image.Form) told other = refl
whole_once c (Err image.Form) (Err (image.Limit hit)) told other = absurd (told other.0)
whole_once c (Err image.Form) (Err image.NoMemory) told other = absurd other
whole_once c (Err image.Form) (Err image.Magic) told other = absurd other
whole_once c (Err image.Form) (Err image.Version) told other = absurd other
whole_once c (Err image.Form) (Err image.Short) told other = absurd other
whole_once c (Err image.Form) (Err image.Trailing) told other = absurd other
whole_once c (Err (image.Limit hit)) (Ok d) told other = let no_hit : None ≡ one_hit hit = sym other.2 ∙ told.1 in absurd cc
whole_once c (Err (image.Limit hit)) (Err image.Form) told other = absurd (other told.0)
whole_once c (Err (image.Limit hit)) (Err (image.Limit second)) told other = let same : one_hit hit ≡ one_hit second = sym told.1 ∙ other.1 in ap limit_answer (hit_is hit second same)
whole_once c (Err (image.Limit hit)) (Err image.NoMemory) told other = absurd other
whole_once c (Err (image.Limit hit)) (Err image.Magic) told other = absurd other
whole_once c (Err (image.Limit hit)) (Err image.Version) told other = absurd other
whole_once c (Err (image.Limit hit)) (Err image.Short) told other = absurd other
whole_once c (Err (image.Limit hit)) (Err image.Trailing) told other = absurd other
whole_once c (Err image.NoMemory) b told other = absurd told
whole_once c (Err image.Magic) b told other = absurd told
whole_once c (Err image.Version) b told other = absurd told
whole_once c (Err image.Short) b told other = absurd told
whole_once c (Err image.Trailing) b told other = absurd told

end_once : (c : Config) (rest : List ℕ) (a b : Result Config ImageFault) → EndAnswers (c, rest) a → EndAnswers (c, rest) b → a ≡ b
end_once c [] a b told other = whole_once c a b told other
end_once c (byte ∷ rest) a b told other = told ∙ sym other

config_once : (r : Result (Config × List ℕ) ReadFault) (a b : Result Config ImageFault) → ConfigAnswers r a → ConfigAnswers r b → a ≡ b
config_once (Err Short) a b told other = told ∙ sym other
config_once (Err Form) a b told other = told ∙ sym other
config_once (Ok x) a b told other = end_once x.0 x.1 a b told other

version_once : (version : Option ℕ) (bytes : List ℕ) (a b : Result Config ImageFault) → VersionAnswers version bytes a → VersionAnswers version bytes b → a ≡ b
version_once (Some version) bytes a b told other = config_once (image_at version bytes) a b told other
version_once None bytes a b told other = told ∙ sym other

magic_once : (begins_so : Bool) (bytes : List ℕ) (a b : Result Config ImageFault) → MagicAnswers begins_so bytes a → MagicAnswers begins_so bytes b → a ≡ b
magic_once true bytes a b told other = version_once (version_told bytes) (drop 2 bytes) a b told other
magic_once false bytes a b told other = told ∙ sym other

pub answered_once : (bytes : List ℕ) (a b : Result Config ImageFault) → Answers bytes a → Answers bytes b → a ≡ b
answered_once bytes a b told other = magic_once (starts_with nat_eq bytes (codes "RMTI")) (drop 4 bytes) a b told other
