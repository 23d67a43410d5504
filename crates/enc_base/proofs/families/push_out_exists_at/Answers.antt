use Rattle.std.proofs.Common.{ℕ, ◌+◌, ◌-◌, List, [], ◌∷◌, ◌++◌, map, true, sym, ap, ◌∙◌, arith}
use Rattle.std.specs.List.{range_with_len}
use Rattle.clause_core.specs.declared.raw.RawLit.{RawLit}
use Rattle.clause_core.specs.declared.raw.RawLit.TheVariants.{Var}
use Rattle.enc_theory.specs.Families.{driver}
use Rattle.clause_core.specs.Clauses.{IsWithin}
use Rattle.enc_base.specs.RoomLaws.{within_first}
use Rattle.clause_core.specs.WithinLaws.{all_pushed}
use Rattle.clause_core.specs.RangeLaws.{map-turn_from}
use Rattle.enc_base.proofs.families.push_out_exists_at.Goals as goal

pub loop-i-preserved : goal.loop-i-preserved
unfolding driver
loop-i-preserved c =
    let vars = c.args.list.now.vars in
    let first : ℕ = c.args.z.n + 1 in
    let i : ℕ = c.loop-i.i in
    let before : List RawLit = map (driver c.args.z c.args.h) (range_with_len first (i - first)) in
    record {
      same = c.in_ok-push.ensures.items
          ∙ ap (λ (raws : List RawLit). raws ++ Var c.g_var.result true ∷ []) c.loop-i.invariant.same
          ∙ ap (λ (v : ℕ). before ++ Var v true ∷ []) c.g_var.ensures.value
          ∙ sym (map-turn_from (driver c.args.z c.args.h) first i (omega arith));
      within = all_pushed (IsWithin vars) c.loop-i.raws.items c.push.new.self.items
          (Var c.g_var.result _) c.in_ok-push.ensures.items c.loop-i.invariant.within
          (within_first c.args.z vars c.g_var.result _ c.requires.room c.g_var.ensures.within);
    }
