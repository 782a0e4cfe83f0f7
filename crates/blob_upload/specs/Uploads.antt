-- What an upload is.
use Rattle.std.specs.Prelude.{ℕ, List, Option}
use Rattle.http_wire.specs.Bodies.{Moves}
use Rattle.http_wire.specs.Wires.{WireView, to_come}
use Rattle.multipart_read.specs.PartLists.{Part}
use Rattle.home_places.specs.Passes.{Sight}
use Rattle.blob_upload.specs.declared.upload_end.UploadEnd.{UploadEnd}
use Rattle.blob_upload.specs.Puts.{Keeps}
use Rattle.blob_upload.specs.Ends.{Ends}

-- AN UPLOAD: bytes of a body with this boundary were given; the first of its parts, none of which has a fault, were put
-- and listed behind what was kept before; and then it ended.
pub record Uploads (boundary : List ℕ) (left left' : Option (List ℕ)) (wire wire' : WireView) (v w : Sight)
    (kept kept' : List (List ℕ × ℕ)) (end : UploadEnd) : Type 0 where
  pub given : List ℕ
  pub moved : Moves left left' wire.flow wire'.flow wire.body wire'.body given
  pub parts : List Part
  pub middle : Sight
  pub keeps : Keeps parts kept kept' v middle
  pub ends : Ends boundary given parts wire' (to_come wire' left') end middle w
