-- The payload of a claim, written in two pieces.
use Rattle.std.proofs.Common.{◌≡◌, ℕ, List, [], ◌∷◌, ◌++◌, codes, drop, flat_map, sym, ap, ◌∙◌, append_assoc}
use Rattle.std.proofs.lemmas.List.Concat.{flat_map-append}
use Rattle.std.specs.List.{join_by}
use Rattle.json_laws.specs.Written.{Pair, pair_text, payload_text}
use Rattle.schema_fact.specs.declared.kinds.What.{What}
use Rattle.schema_fact.specs.declared.kinds.What.TheVariants.{Set, Add, Del, Delete, Multi}
use Rattle.schema_write.specs.Blobs.{text_pair, number_pair, value_pairs, changes_pair, start_pairs, claim_type, what_pairs, claim_payload}

pieces : (a b c d : List ℕ) → ((123 ∷ (a ++ b)) ++ 44 ∷ []) ++ (c ++ d) ≡ 123 ∷ (a ++ (b ++ (44 ∷ (c ++ d))))
pieces a b c d = simp append_assoc

-- pairs behind those of a payload
pub joined : (p : Pair) (ps : List Pair) (q : Pair) (qs : List Pair)
    → (payload_text (p ∷ ps) ++ codes ",") ++ join_by pair_text (codes ",") (q ∷ qs) ≡ payload_text (p ∷ ps ++ q ∷ qs)
joined p ps q qs =
    let text = λ (q : Pair). codes "," ++ pair_text q in
    pieces (pair_text p) (flat_map text ps) (pair_text q) (flat_map text qs)
    ∙ ap (λ (l : List ℕ). 123 ∷ (pair_text p ++ l)) (sym (flat_map-append text ps (q ∷ qs)))

behind : (signer date type : List ℕ) (q : Pair) (qs : List Pair)
    → (payload_text (start_pairs signer date type) ++ codes ",") ++ join_by pair_text (codes ",") (q ∷ qs) ≡ payload_text (start_pairs signer date type ++ q ∷ qs)
behind signer date type q qs = joined (number_pair (codes "camliVersion") 1) (drop 1 (start_pairs signer date type)) q qs

-- the pairs of what is said, behind those that each claim begins with
said_behind : (signer date : List ℕ) (what : What)
    → (payload_text (start_pairs signer date (claim_type what)) ++ codes ",") ++ join_by pair_text (codes ",") (what_pairs what) ≡ claim_payload signer date what
unfolding claim_payload
said_behind signer date (Set on attr value) =
    behind signer date (codes "set-attribute") (text_pair (codes "permaNode") on) (text_pair (codes "attribute") attr ∷ text_pair (codes "value") value ∷ [])
said_behind signer date (Add on attr value) =
    behind signer date (codes "add-attribute") (text_pair (codes "permaNode") on) (text_pair (codes "attribute") attr ∷ text_pair (codes "value") value ∷ [])
said_behind signer date (Del on attr value) =
    behind signer date (codes "del-attribute") (text_pair (codes "permaNode") on) (text_pair (codes "attribute") attr ∷ value_pairs value)
said_behind signer date (Delete target) = behind signer date (codes "delete") (text_pair (codes "target") target) []
said_behind signer date (Multi changes) = behind signer date (codes "multi") (changes_pair changes) []

pub claimed : (signer date : List ℕ) (what said : What) (start all : List ℕ)
    → what ≡ said
    → start ≡ payload_text (start_pairs signer date (claim_type said))
    → all ≡ (start ++ codes ",") ++ join_by pair_text (codes ",") (what_pairs said)
    → all ≡ claim_payload signer date what
claimed signer date what said start all is begun then =
    then ∙ ap (λ (t : List ℕ). (t ++ codes ",") ++ join_by pair_text (codes ",") (what_pairs said)) begun ∙ said_behind signer date said ∙ ap (claim_payload signer date) (sym is)
