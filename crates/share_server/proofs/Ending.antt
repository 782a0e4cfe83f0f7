-- Connections that are counted, and how serving ends.
use Rattle.std.proofs.Common.{◌≡◌, ◌⊎◌, ℕ, ◌+◌, ◌-◌, ◌^◌, ◌≤◌, Option, Some, None, inl, inr, ⊎_elim}
use Rattle.std.proofs.Common.{List, [], Result, IfErr, refl, ◌∙◌, arith}
use Rattle.std.specs.Option.{option_map}
use Rattle.std.proofs.lemmas.Result.{IfErr-weaker}
use Rattle.edge_base.specs.Edge.{FaultsRose, one_more}
use Rattle.edge_base.specs.declared.answers.GetFault.{GetFault}
use Rattle.edge_base.specs.declared.answers.GetFault.TheVariants as getting
use Rattle.edge_base.specs.declared.shelf.Shelf.{Ghosts}
use Rattle.pack_store.specs.declared.opening.OpenFault.{OpenFault}
use Rattle.pack_store.specs.declared.opening.OpenFault.TheVariants as opening
use Rattle.edge_base.specs.Shelf.{Blobs}
use Rattle.share_gate.specs.Building.{BuildFault, IsOnlyRead}
use Rattle.share_gate.proofs.Reading.{PutsThen, read_nothing, read_then}
use Rattle.top_frame.specs.declared.status.Status.{Status}
use Rattle.top_frame.specs.declared.status.Status.TheVariants as status
use Rattle.top_frame.specs.Faults.{get_status, open_status}
use Rattle.share_server.specs.Serving.{Ends, GateFault, IsAccepted}

one_more_is : (b : ℕ) → (one_more b ≡ b + 1) ⊎ (one_more b ≡ 2 ^ 64 - 1)
one_more_is b = grind arith

accepted_more : (a b c k : ℕ) → c ≡ one_more b → IsAccepted k a b → IsAccepted (k + 1) a c
accepted_more a b c k is (inl p) =
    ⊎_elim (λ (e : one_more b ≡ b + 1). inl (omega (arith, is, p, e)))
    (λ (e : one_more b ≡ 2 ^ 64 - 1). inr (is ∙ e)) (one_more_is b)
accepted_more a b c k is (inr p) = inr (omega (arith, is, p))

-- while connections are accepted: so many were, and the shelf was only read
pub record Goes {B : Type 0} (g : Ghosts B) (accepted accepted' faults faults' k : ℕ) (shelf shelf' : B) : Type 0 where
  pub most : accepted' ≤ accepted + k
  pub given : IsAccepted k accepted accepted'
  pub later : faults ≤ faults'
  pub read : IsOnlyRead g shelf shelf'

module _ {B : Type 0} (g : Ghosts B) where
  pub goes_none : ((a : B) → g.puts a [] a) → (accepted faults : ℕ) (shelf : B)
      → Goes g accepted accepted faults faults 0 shelf shelf
  goes_none nothing accepted faults shelf = record {
    most = omega arith;
    given = inl (omega arith);
    later = omega arith;
    read = read_nothing g nothing shelf;
  }

  pub goes_more : PutsThen g → (a b c : ℕ) (f f' f'' k : ℕ) (shelf mid now : B) → c ≡ one_more b → f' ≤ f''
      → IsOnlyRead g mid now → Goes g a b f f' k shelf mid → Goes g a c f f'' (k + 1) shelf now
  goes_more then a b c f f' f'' k shelf mid now is later read w = record {
    most = let m = w.most in omega (arith, is, m);
    given = accepted_more a b c k is w.given;
    later = let l = w.later in omega (arith, l, later);
    read = read_then g then shelf mid now w.read read;
  }

-- why the gate wasn't made, of whatever refs
pub built_fault : {T : Type 0} (told : Option Blobs) (before now : ℕ) (refs : List (List ℕ)) (built : Result T GetFault)
    → IfErr built (BuildFault told before now refs) → IfErr built (GateFault told before now)
built_fault {T} told before now refs built = IfErr-weaker built (BuildFault told before now refs) _ one
  where
    one : (fault : GetFault) → BuildFault told before now refs fault → GateFault told before now fault
    one getting.Disk is = is
    one (getting.Damaged want was) is = (is.1, is.2)
    one getting.NoMemory is = tt

-- a fault of making the gate
pub gate_fault : {T : Type 0} (told : Option T) (before now accepted faults connections : ℕ) (fault : GetFault)
    → GateFault told before now fault
    → Ends connections accepted accepted faults faults told before now (get_status fault)
gate_fault told before now accepted faults connections getting.Disk is = (is, refl)
gate_fault told before now accepted faults connections (getting.Damaged want was) is = (is.0, is.1, refl)
gate_fault told before now accepted faults connections getting.NoMemory is = refl

-- a fault of opening the store
pub open_fault : {T : Type 0} (told : Option T) (before now accepted faults connections : ℕ) (fault : OpenFault)
    → (fault ≡ opening.Disk → FaultsRose before now)
    → Ends connections accepted accepted faults faults told before now (open_status fault)
open_fault told before now accepted faults connections opening.Disk rose = (rose refl, refl)
open_fault told before now accepted faults connections opening.NoMemory rose = refl

-- where a store tells nothing its disk doesn't
pub none_told : {T U : Type 0} (f : T → U) (told : Option T) → option_map f told ≡ None → told ≡ None
none_told f None is = refl
none_told f (Some x) is = absurd (cc is)

-- from an earlier count of the disk's faults on
pub ends_since : {T U : Type 0} (told : Option T) (told' : Option U) → (told' ≡ None → told ≡ None)
    → (connections a a' f f' read read' now : ℕ) (s : Status) → read ≤ read'
    → Ends connections a a' f f' told' read' now s → Ends connections a a' f f' told read now s
ends_since told told' none connections a a' f f' read read' now status.Done le e = e
ends_since told told' none connections a a' f f' read read' now status.ListenerFault le e = e
ends_since told told' none connections a a' f f' read read' now status.Disk le e =
    let rose : one_more read' ≤ now = e.0 in (omega (arith, le, rose), e.1)
ends_since told told' none connections a a' f f' read read' now (status.Damaged want is) le e = (e.0, none e.1, e.2)
ends_since told told' none connections a a' f f' read read' now status.NoMemory le e = e
ends_since told told' none connections a a' f f' read read' now status.BadWords le e = e
ends_since told told' none connections a a' f f' read read' now (status.Absent r) le e = e
ends_since told told' none connections a a' f f' read read' now (status.BadInput fault) le e = e
ends_since told told' none connections a a' f f' read read' now status.ReadFault le e = e
ends_since told told' none connections a a' f f' read read' now status.WriteFault le e = e
ends_since told told' none connections a a' f f' read read' now status.Peer le e = e
ends_since told told' none connections a a' f f' read read' now (status.BadReply fault) le e = e
ends_since told told' none connections a a' f f' read read' now status.HandFault le e = e
ends_since told told' none connections a a' f f' read read' now (status.Full blobs pack) le e = e
