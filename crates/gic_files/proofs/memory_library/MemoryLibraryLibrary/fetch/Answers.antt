use Rattle.std.proofs.Common.{rules, arith, ◌≡◌, ℕ, List, Some, None, Err, Bool, true, false, ◌==◌, inl, inr, sym, ap, ◌∙◌, IsSomeAnd, subst, map, string_bytes}
use Rattle.std.proofs.lemmas.Grind.{common_steps}
use Rattle.std.proofs.lemmas.Result.{on_ok_weaker}
use Rattle.std.specs.Cmp.Lexicographic.{slice_cmp, nat_list_cmp_total}
use Rattle.std.specs.Ordering.{nat_cmp}
use Rattle.std.specs.FinMap.{find, get, get-from_entries}
use Rattle.std.specs.Io.{StartsWith}
use Rattle.std.specs.List.{list_any}
use Rattle.gic_base.specs.Memory.{is_failing}
use Rattle.gic_files.specs.Fetches.{FailsWith, FailsOrLacksMemory}
use Rattle.gic_files.specs.Shelf.{files_of}
use Rattle.gic_files.specs.declared.library.FetchRefusal.{FetchRefusal}
use Rattle.gic_files.specs.declared.library.FetchRefusal.TheVariants.{Failed, TooLong, Memory}
use Rattle.gic_files.proofs.memory_library.MemoryLibraryLibrary.fetch.Goals as goal
use Rattle.gic_files.proofs.memory_library.MemoryLibraryLibrary.fetch.Goals.{In-Some, In-None, After-contains}

-- the file that was found is what the library tells of the name
found : (c : In-Some) → get (files_of c.args.self.now.files) c.args.name.now ≡ Some c.in-Some.bytes.now.items
found c =
    get-from_entries nat_list_cmp_total c.args.self.now.files c.args.name.now
    ∙ ap (λ s. find (slice_cmp nat_cmp) c.args.name.now s.files) (sym c.self.view_is)
    ∙ ap (λ fs. find (slice_cmp nat_cmp) c.args.name.now (map (λ f. (string_bytes f.0, f.1.items)) fs)) (sym c.deref-2.ensures.value)
    ∙ sym c.in-Some.ensures

pub returns-in-Some-clause-whole : goal.returns-in-Some-clause-whole
returns-in-Some-clause-whole c =
    on_ok_weaker c.hand_out.result (λ p. found (goal.at.returns-in-Some-clause-whole c).In-Some ∙ ap Some (sym c.deref-in-Some.ensures.value ∙ sym p.0)) c.hand_out.ensures.whole

pub returns-in-Some-clause-prefix : goal.returns-in-Some-clause-prefix
returns-in-Some-clause-prefix c = λ e.
    let into = c.hand_out.new.into.items in
    let Prefix : List ℕ → Type 0 = λ bytes. StartsWith bytes into in
    subst (λ o. IsSomeAnd o Prefix) (sym (found (goal.at.returns-in-Some-clause-prefix c).In-Some)) (subst Prefix c.deref-in-Some.ensures.value (c.hand_out.ensures.too_long e).1)

-- the test says whether the call is one that fails
tested : (c : After-contains) → is_failing c.args.self.now.failing c.args.self.now.calls ≡ c.contains.result
tested c =
    ap (λ s. is_failing s.failing s.calls) (sym c.self.view_is)
    ∙ ap (list_any (λ n. n == c.self.inside.calls)) (sym c.deref.ensures.value)
    ∙ sym c.contains.ensures.value

missing : (c : In-None) → get (files_of c.args.self.now.files) c.args.name.now ≡ None
missing c =
    get-from_entries nat_list_cmp_total c.args.self.now.files c.args.name.now
    ∙ ap (λ s. find (slice_cmp nat_cmp) c.args.name.now s.files) (sym c.self.view_is)
    ∙ ap (λ fs. find (slice_cmp nat_cmp) c.args.name.now (map (λ f. (string_bytes f.0, f.1.items)) fs)) (sym c.deref-2.ensures.value)
    ∙ sym c.in-None.ensures

true_is_not_false : {b : Bool} → b ≡ true → b ≡ false → ⊥
true_is_not_false e f = let g : true ≡ false = sym e ∙ f in cc

-- a failed fetch fails, or wants memory
failed_so : (before now : List (List ℕ)) (name : List ℕ) (refusal : FetchRefusal) → FailsWith before now name refusal → FailsOrLacksMemory (Err refusal)
failed_so before now name Failed h = tt
failed_so before now name TooLong h = absurd h
failed_so before now name Memory h = tt

pub returns-then-contains-clause-call : goal.returns-then-contains-clause-call
returns-then-contains-clause-call c = record {
  fails = λ _. failed_so _ _ _ c.failed_fetch.result c.failed_fetch.ensures;
  only = λ _. inl (tested (goal.at.returns-then-contains-clause-call c).After-contains ∙ c.if-contains.true);
  counted = first_of (search rules, grind (arith, common_steps));
  numbers = first_of (search rules, grind (arith, common_steps));
}

pub returns-in-None-clause-call : goal.returns-in-None-clause-call
returns-in-None-clause-call c = record {
  fails = λ _. failed_so _ _ _ c.failed_fetch-in-None.result c.failed_fetch-in-None.ensures;
  only = λ _. inr (missing (goal.at.returns-in-None-clause-call c).In-None);
  counted = first_of (search rules, grind (arith, common_steps));
  numbers = first_of (search rules, grind (arith, common_steps));
}

pub returns-in-Some-clause-call : goal.returns-in-Some-clause-call
returns-in-Some-clause-call c = record {
  fails = λ yes. absurd (true_is_not_false yes (tested (goal.at.returns-in-Some-clause-call c).After-contains ∙ c.if-contains.false));
  only = λ failed. absurd (c.hand_out.ensures.failed failed);
  counted = first_of (search rules, grind (arith, common_steps));
  numbers = first_of (search rules, grind (arith, common_steps));
}
