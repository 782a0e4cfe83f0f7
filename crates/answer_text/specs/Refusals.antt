-- Why requests are refused: the code of each reply, and its fields.
use Rattle.std.specs.Prelude.{ℕ, List, [], ◌++◌, codes, decimal}
use Rattle.json.specs.Print.{quoted}
use Rattle.answer_text.specs.declared.refusal.BadKind.{BadKind}
use Rattle.answer_text.specs.declared.refusal.BadKind.TheVariants as kind
use Rattle.answer_text.specs.declared.refusal.Refusal.{Refusal}
use Rattle.answer_text.specs.declared.refusal.Refusal.TheVariants.{BadHead, BadLength, BadVersion, BadRef, BadNumber, BadMultipart, BadDigest, BadQuery, NoRoute, Absent, Method, TooLong, Damaged, Memory, Disk, Full}

-- the code of the reply's status
abbrev pub code_of : Refusal → ℕ
code_of BadHead = 400
code_of BadLength = 400
code_of BadVersion = 400
code_of BadRef = 400
code_of BadNumber = 400
code_of (BadMultipart at) = 400
code_of (BadDigest said is) = 400
code_of (BadQuery kind at) = 400
code_of NoRoute = 404
code_of (Absent r) = 404
code_of Method = 405
code_of (TooLong limit) = 413
code_of (Damaged want is) = 500
code_of Memory = 503
code_of Disk = 503
code_of (Full blobs pack) = 507

-- what the text of the reply calls it
abbrev pub name_of : Refusal → List ℕ
name_of BadHead = codes "bad head"
name_of BadLength = codes "bad length"
name_of BadVersion = codes "bad version"
name_of BadRef = codes "bad ref"
name_of BadNumber = codes "bad number"
name_of (BadMultipart at) = codes "bad multipart"
name_of (BadDigest said is) = codes "bad digest"
name_of (BadQuery kind at) = codes "bad query"
name_of NoRoute = codes "no route"
name_of (Absent r) = codes "absent"
name_of Method = codes "method"
name_of (TooLong limit) = codes "too long"
name_of (Damaged want is) = codes "damaged"
name_of Memory = codes "memory"
name_of Disk = codes "disk"
name_of (Full blobs pack) = codes "full"

abbrev pub kind_text : BadKind → List ℕ
kind_text kind.NotJson = codes "NotJson"
kind_text kind.BadKey = codes "BadKey"
kind_text kind.BadValue = codes "BadValue"
kind_text kind.TooDeep = codes "TooDeep"

-- a number under a key
abbrev pub number_detail : List ℕ → ℕ → List ℕ
number_detail key number = codes ",\"" ++ key ++ codes "\":" ++ decimal number

-- a ref under a key. A ref has no byte that JSON escapes
abbrev pub ref_field : List ℕ → List ℕ → List ℕ
ref_field key r = codes "\"" ++ key ++ codes "\":\"" ++ r ++ codes "\""

abbrev pub ref_detail : List ℕ → List ℕ → List ℕ
ref_detail key r = codes "," ++ ref_field key r

-- which rule a query breaks, and where
abbrev pub query_detail : BadKind → List ℕ → List ℕ
query_detail kind at = codes ",\"kind\":\"" ++ kind_text kind ++ codes "\",\"at\":" ++ quoted at

-- what the text says beside the name
abbrev pub detail_of : Refusal → List ℕ
detail_of (BadMultipart at) = number_detail (codes "at") at
detail_of (BadDigest said is) = ref_detail (codes "said") said ++ ref_detail (codes "is") is
detail_of (BadQuery kind at) = query_detail kind at
detail_of (Absent r) = ref_detail (codes "blobRef") r
detail_of (TooLong limit) = number_detail (codes "limit") limit
detail_of (Damaged want is) = ref_detail (codes "want") want ++ ref_detail (codes "is") is
detail_of (Full blobs pack) = number_detail (codes "blobs") blobs ++ number_detail (codes "pack") pack
detail_of BadHead = []
detail_of BadLength = []
detail_of BadVersion = []
detail_of BadRef = []
detail_of BadNumber = []
detail_of NoRoute = []
detail_of Method = []
detail_of Memory = []
detail_of Disk = []

-- the fields of a refusal
abbrev pub fields_of : Refusal → List ℕ
fields_of refusal = codes "\"error\":\"" ++ name_of refusal ++ codes "\"" ++ detail_of refusal

-- the text of a refusal alone
abbrev pub refusal_text : Refusal → List ℕ
refusal_text refusal = codes "{" ++ fields_of refusal ++ codes "}"
