-- What a command does with a store.
use Rattle.std.specs.Prelude.{Bool, true, false}
use Rattle.folder_disk.specs.declared.folder.Access.{Access}
use Rattle.folder_disk.specs.declared.folder.Access.TheVariants.{Read, Write}

-- by whether it may change the store
abbrev pub access_of : Bool → Access
access_of true = Write
access_of false = Read
