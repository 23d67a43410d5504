-- The comparison of two texts.
use Rattle.std.specs.Prelude.{◌≡◌, ℕ, ◌<◌, ◌≤◌, List, [], length, Option, Some, Err, IsErrOf, refl}
use Rattle.std.proofs.Common.{inl, inr}
use Rattle.std.proofs.lemmas.Grind.{common_steps}
use Rattle.port_io.specs.Faults.{Rose}
use Rattle.port_io.specs.declared.reading.ReadError.{ReadError}
use Rattle.port_io.specs.declared.reading.ReadError.TheVariants.{ReadFault, TooLong, Memory}
use Rattle.net_theory.specs.Limits.{most_of_netlist}
use Rattle.frame_core.specs.declared.status.Status.{Status}
use Rattle.frame_core.specs.Outside.{PortState, Writes}
use Rattle.frame_core.specs.Reported.{error_line}
use Rattle.file_io.specs.declared.calls.Call.TheVariants.{Open}
use Rattle.file_io.specs.FaultLine.{fault_line, fault_status}
use Rattle.file_io.specs.Names.{Shows}
use Rattle.file_io.specs.Files.{FilesState, Files, IsUnchanged, Fails}
use Rattle.file_io.specs.Served.{Pass, IsApart, IsRead}
use Rattle.file_io.specs.ServedLaws.{still, apart}
use Rattle.front_core.specs.Paired.{HasCause, first_line, first_status, Compares, IsFirstDone, IsFirstStandard, IsNamedPair}

-- why a read failed
cause_of : {T : Type 0} (source source' : PortState) (error : ReadError) →
    (IsErrOf {T = T} (Err error) ReadFault → Rose source.faults source'.faults) →
    ((input : List ℕ) → source.bytes ≡ Some input → IsErrOf {T = T} (Err error) TooLong → most_of_netlist < length input) →
    HasCause (source, source') error
cause_of source source' ReadFault rose beyond = rose refl
cause_of source source' TooLong rose beyond = λ input is. beyond input is refl
cause_of source source' Memory rose beyond = tt

-- ---- the first text

done_refused : {T : Type 0} (second : Option (List ℕ)) (compares : Compares) (state : FilesState)
    (input input' source out note note' : PortState) (status : Status) (error : ReadError) →
    (IsErrOf {T = T} (Err error) ReadFault → Rose input.faults input'.faults) →
    ((bytes : List ℕ) → input.bytes ≡ Some bytes → IsErrOf {T = T} (Err error) TooLong → most_of_netlist < length bytes) →
    Writes note note' (error_line (first_line error)) → status ≡ first_status error →
    IsFirstDone second compares (state, state) (input, input') (source, source) (out, out) (note, note') status
done_refused second compares state input input' source out note note' status error rose beyond writes is = inl (
  record {
    refused = record { error = error; cause = cause_of input input' error rose beyond; on_note = writes; status_is = is };
    unchanged = still state;
    on_out = refl;
  },
  refl,
)

done_compared : (second : Option (List ℕ)) (compares : Compares) (files : Files) (input input' : PortState)
    (source out note : Pass) (status : Status) (text : List ℕ) →
    ((bytes : List ℕ) → input.bytes ≡ Some bytes → text ≡ bytes) → length text ≤ most_of_netlist →
    ((bytes : List ℕ) → input.bytes ≡ Some bytes → input'.bytes ≡ Some []) → input'.faults ≡ input.faults →
    IsRead second (IsApart (compares text)) files source out note status →
    IsFirstDone second compares files (input, input') source out note status
done_compared second compares files input input' source out note status text whole within end faultless rest =
    inr (record { text = text; read = record { whole = whole; within = within; to_end = record { end = end; faultless = faultless } }; rest = rest })

pub standard_refused : {T : Type 0} (second : Option (List ℕ)) (compares : Compares) (state : FilesState)
    (source source' out note note' : PortState) (status : Status) (error : ReadError) →
    (IsErrOf {T = T} (Err error) ReadFault → Rose source.faults source'.faults) →
    ((bytes : List ℕ) → source.bytes ≡ Some bytes → IsErrOf {T = T} (Err error) TooLong → most_of_netlist < length bytes) →
    Writes note note' (error_line (first_line error)) → status ≡ first_status error →
    IsFirstStandard second compares (state, state) (source, source') (out, out) (note, note') status
standard_refused second compares state source source' out note note' status error rose beyond writes is = record {
  between = source';
  does = done_refused second compares state source source' source' out note note' status error rose beyond writes is;
}

pub standard_compared : (second : Option (List ℕ)) (compares : Compares) (files : Files)
    (source between source' : PortState) (out note : Pass) (status : Status) (text : List ℕ) →
    ((bytes : List ℕ) → source.bytes ≡ Some bytes → text ≡ bytes) → length text ≤ most_of_netlist →
    ((bytes : List ℕ) → source.bytes ≡ Some bytes → between.bytes ≡ Some []) → between.faults ≡ source.faults →
    IsRead second (IsApart (compares text)) files (between, source') out note status →
    IsFirstStandard second compares files (source, source') out note status
standard_compared second compares files source between source' out note status text whole within end faultless rest = record {
  between = between;
  does = done_compared second compares files source between (between, source') out note status text whole within end faultless rest;
}

pub ruleset standard = (common_steps, standard_refused, standard_compared)

pub input_refused : {T : Type 0} (second : Option (List ℕ)) (compares : Compares) (state : FilesState)
    (input input' source out note note' : PortState) (status : Status) (error : ReadError) →
    (IsErrOf {T = T} (Err error) ReadFault → Rose input.faults input'.faults) →
    ((bytes : List ℕ) → input.bytes ≡ Some bytes → IsErrOf {T = T} (Err error) TooLong → most_of_netlist < length bytes) →
    Writes note note' (error_line (first_line error)) → status ≡ first_status error →
    IsFirstDone second compares (state, state) (input, input') (source, source) (out, out) (note, note') status
input_refused second compares state input input' source out note note' status error rose beyond writes is =
    done_refused second compares state input input' source out note note' status error rose beyond writes is

pub input_compared : (second : Option (List ℕ)) (compares : Compares) (files : Files) (input input' : PortState)
    (source out note : Pass) (status : Status) (text : List ℕ) →
    ((bytes : List ℕ) → input.bytes ≡ Some bytes → text ≡ bytes) → length text ≤ most_of_netlist →
    ((bytes : List ℕ) → input.bytes ≡ Some bytes → input'.bytes ≡ Some []) → input'.faults ≡ input.faults →
    IsRead second (IsApart (compares text)) files source out note status →
    IsFirstDone second compares files (input, input') source out note status
input_compared second compares files input input' source out note status text whole within end faultless rest =
    done_compared second compares files input input' source out note status text whole within end faultless rest

pub ruleset reading = (common_steps, input_refused, input_compared)

-- ---- a file

pub named_unread : (name reason : List ℕ) (second : Option (List ℕ)) (compares : Compares) (old new : FilesState)
    (source out note note' : PortState) (status : Status) → Fails Open old new →
    Writes note note' (fault_line Open name reason) → status ≡ fault_status Open →
    IsNamedPair name second compares (old, new) (source, source) (out, out) (note, note') status
named_unread name reason second compares old new source out note note' status fails writes is = inl (record {
  unread = record {
    failed = record { fails = fails; reason = reason; on_note = writes; status_is = is };
    on_out = refl;
  };
  on_source = refl;
})

pub named_opened : (name : List ℕ) (second : Option (List ℕ)) (compares : Compares) (old mid new : FilesState)
    (input input' : PortState) (source out note : Pass) (status : Status) → IsUnchanged old mid →
    Shows (old.holds name) input.bytes →
    IsFirstDone second compares (mid, new) (input, input') source out note status →
    IsNamedPair name second compares (old, new) source out note status
named_opened name second compares old mid new input input' source out note status unchanged shows does = inr (record {
  opened = mid;
  input = (input, input');
  unchanged = unchanged;
  shows = shows;
  does = does;
})

pub ruleset named = (common_steps, named_unread, named_opened)

-- ---- work without files

pub ruleset apart_runs = (common_steps, still, apart)
