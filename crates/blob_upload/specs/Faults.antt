-- Why the parts of an upload are refused, and what the upload then ends with.
use Rattle.std.specs.Prelude.{not, if◌then◌else◌, Option, Some, None}
use Rattle.blobref.specs.Blobref.{is_blobref, is_own_ref, ref_like}
use Rattle.edge_base.specs.declared.answers.PutFault.{PutFault}
use Rattle.edge_base.specs.declared.answers.PutFault.TheVariants as put
use Rattle.pack_format.specs.Header.{max_size}
use Rattle.http_wire.specs.declared.ends.WireEnd.{WireEnd}
use Rattle.http_wire.specs.declared.ends.WireEnd.TheVariants as wire
use Rattle.multipart_read.specs.declared.events.PartFault.{PartFault}
use Rattle.multipart_read.specs.declared.events.PartFault.TheVariants as part
use Rattle.multipart_read.specs.PartLists.{Part}
use Rattle.answer_text.specs.declared.refusal.Refusal.{Refusal}
use Rattle.answer_text.specs.declared.refusal.Refusal.TheVariants.{BadRef, BadDigest, BadMultipart, BadLength, TooLong}
use Rattle.blob_upload.specs.declared.upload_end.UploadEnd.{UploadEnd}
use Rattle.blob_upload.specs.declared.upload_end.UploadEnd.TheVariants.{Refused, Full, Disk, Memory, Ended}

-- why a whole part is refused, if it is: its name is no ref, or another one than its content has
abbrev pub part_fault : Part → Option Refusal
part_fault part =
    if not (is_blobref part.0) then Some BadRef
    else if not (is_own_ref part.0 part.1) then Some (BadDigest part.0 (ref_like part.0 part.1))
    else None

-- What an upload ends with where a part isn't put. No part that is told of a body is too big.
abbrev pub end_of_put : PutFault → UploadEnd
end_of_put (put.TooBig size) = Refused (TooLong max_size)
end_of_put (put.BadDigest said is) = Refused (BadDigest said is)
end_of_put (put.Full blobs pack) = Full blobs pack
end_of_put put.Disk = Disk
end_of_put put.NoMemory = Memory

-- what it ends with at a fault of the multipart body
abbrev pub end_of_part : PartFault → UploadEnd
end_of_part part.BadBoundary = Refused (BadMultipart 0)
end_of_part (part.Bad at) = Refused (BadMultipart at)
end_of_part (part.TooLong limit) = Refused (TooLong limit)
end_of_part part.NoMemory = Memory

-- what it ends with where no more of the body is read
abbrev pub end_of_wire : WireEnd → UploadEnd
end_of_wire (wire.BadLength at) = Refused BadLength
end_of_wire wire.Closed = Ended wire.Closed
end_of_wire (wire.Cut at) = Ended (wire.Cut at)
end_of_wire (wire.BadHead at) = Ended (wire.BadHead at)
end_of_wire (wire.TooLong limit) = Ended (wire.TooLong limit)
end_of_wire wire.ReadFault = Ended wire.ReadFault
