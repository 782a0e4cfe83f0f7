-- What it means that a ready blob meets a constraint at a time (docs/search.md). All keys that are present hold together, and an absent
-- key asks nothing.
use Rattle.std.specs.Prelude.{ℕ, ◌&&◌, ◌||◌, Bool, true, false, not, List, nat_eq, Option, Some, None, option_and_then}
use Rattle.std.specs.List.{starts_with}
use Rattle.std.specs.Str.{bytes_eq}
use Rattle.claim_verify.specs.Verifier.{Accepts}
use Rattle.schema_date.specs.declared.date.When.{When}
use Rattle.schema_fact.specs.declared.kinds.Kind.{Kind}
use Rattle.schema_fact.specs.declared.kinds.Kind.TheVariants.{Plain, Key, File, Bytes, Directory, StaticSet, Permanode, Claim, Unread}
use Rattle.claim_model.specs.Facts.{Facts, camli_type, passes}
use Rattle.claim_model.specs.Ready.{ready_fact}
use Rattle.claim_model.specs.Trees.{file_size}
use Rattle.search_query.specs.declared.query.FileTest.{FileTest}
use Rattle.search_query.specs.declared.query.IntTest.{IntTest}
use Rattle.search_query.specs.declared.query.Op.{Op}
use Rattle.search_query.specs.declared.query.Op.TheVariants.{And, Or, Xor, Not}
use Rattle.search_query.specs.Mirror.{Leaves, Asked, not_asked, asked, Joined, no_logical, logical, Tested, no_permanode, permanode, Related, no_relation, relation}
use Rattle.search_query.specs.View.{is_asked}
use Rattle.search_meets.specs.Tests.{if_asked, int_holds, int_meets, text_meets}
use Rattle.search_meets.specs.Values.{kin_meet, kin_of, live_meets, time_of, where_asked}

-- `camliType`: the text of the blob's `camliType`
abbrev pub type_holds : Facts → List ℕ → List ℕ → Bool
type_holds facts type r = passes (bytes_eq type) (option_and_then (λ fact. camli_type fact.kind) (ready_fact facts r))

-- `blobSize`: a test of the blob's length in bytes
abbrev pub size_holds : Facts → Option IntTest → List ℕ → Bool
size_holds facts test r = if_asked (λ t. passes (λ fact. int_holds t fact.size) (ready_fact facts r)) test

abbrev pub file_name : Kind → Option (List ℕ)
file_name Plain = None
file_name (Key name) = None
file_name (File name parts) = Some name
file_name (Bytes parts) = None
file_name (Directory name listing) = None
file_name (StaticSet members) = None
file_name (Permanode signed) = None
file_name (Claim signed date what) = None
file_name (Unread type) = None

-- `file`: a sound file whose name and size meet the tests
abbrev pub file_holds : Facts → FileTest → List ℕ → Bool
file_holds facts test r =
    passes (int_meets test.file_size) (file_size facts r)
    && passes (text_meets test.file_name) (option_and_then (λ fact. file_name fact.kind) (ready_fact facts r))

-- the keys of a constraint beside `logical` and `permanode`. `anything` holds, and `blobRefPrefix` where the ref's text begins with it
abbrev pub leaves_meet : Facts → Leaves → List ℕ → Bool
leaves_meet facts leaves r =
    if_asked (λ type. type_holds facts type r) leaves.camli_type
    && if_asked (λ prefix. starts_with nat_eq r prefix) leaves.blob_ref_prefix
    && size_holds facts leaves.blob_size r
    && if_asked (λ test. file_holds facts test r) leaves.file

-- `logical`: two truths joined. Where `op` is absent nothing is asked
abbrev pub joins : Option Op → Bool → Bool → Bool
joins None a b = true
joins (Some And) a b = a && b
joins (Some Or) a b = a || b
joins (Some Xor) true b = not b
joins (Some Xor) false b = b
joins (Some Not) a b = not a

abbrev mutual
  pub meets : Facts → Accepts → Asked → When → List ℕ → Bool
  meets facts accepts not_asked when r = true
  meets facts accepts (asked joined leaves tested) when r =
      (leaves_meet facts leaves r && meets_logical facts accepts joined when r) && meets_tested facts accepts tested when r

  pub meets_logical : Facts → Accepts → Joined → When → List ℕ → Bool
  meets_logical facts accepts no_logical when r = true
  meets_logical facts accepts (logical op a b) when r = joins op (meets facts accepts a when r) (meets facts accepts b when r)

  -- `permanode`: a genuine permanode, not deleted at the test's date, whose values and kin at that date meet the test
  pub meets_tested : Facts → Accepts → Tested → When → List ℕ → Bool
  meets_tested facts accepts no_permanode when r = true
  meets_tested facts accepts (permanode leaves in_set related) when r =
      live_meets facts accepts leaves (where_asked (is_asked in_set) (meets facts accepts in_set (time_of leaves.at when))) (time_of leaves.at when) leaves.attr r
      && meets_related facts accepts related (time_of leaves.at when) r

  -- `relation`: some of the children or parents meets `any`, and each of them `all`
  pub meets_related : Facts → Accepts → Related → When → List ℕ → Bool
  meets_related facts accepts no_relation when r = true
  meets_related facts accepts (relation kin any all) when r =
      kin_meet false (where_asked (is_asked any) (meets facts accepts any when)) (kin_of facts accepts kin when r)
      && kin_meet true (where_asked (is_asked all) (meets facts accepts all when)) (kin_of facts accepts kin when r)
