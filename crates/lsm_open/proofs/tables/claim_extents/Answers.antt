use Rattle.std.proofs.Common.{◌≡◌, ◌≤◌, ◌+◌, ◌||◌, List, Bool, None, take, get_or, take_all, All, Contains, sym, ap, subst, ◌∙◌, arith}
use Rattle.std.specs.List.{list_any}
use Rattle.std.proofs.lemmas.List.Elements.{All-get_or, All-more, All-weaker}
use Rattle.std.proofs.lemmas.List.Folds.{list_any_more}
use Rattle.lsm_codec.specs.TableRecords.{extent_end}
use Rattle.lsm_codec.specs.declared.table_record.TableRecord.{TableRecord}
use Rattle.lsm_extent.specs.Area.{Area, covers, is_held, handed_out}
use Rattle.lsm_extent.specs.declared.extent.Extent.{Extent}
use Rattle.lsm_open.specs.ToldTables.{record_extent}
use Rattle.lsm_open.proofs.Claims.{apart_before, free_then, given_then, or_swap}
use Rattle.lsm_open.proofs.tables.claim_extents.Goals as goal

pub loop-table-preserved : goal.loop-table-preserved
loop-table-preserved g c =
    let inv = c.loop-table.invariant in
    let i = c.loop-table.table-index in
    let ts = c.args.tables.now in
    let d : TableRecord = record { number = 0; level = 0; run = 0; first_block = 0; data_blocks = 0; index_blocks = 0; entries = 0; deletes = None } in
    let t : TableRecord = get_or ts i d in
    let old : Area = c.loop-table.extents in
    let new : Area = c.claim.new.self in
    let lt = c.loop-table-test.true in
    let e : Extent = record_extent t in
    let laws = c.extent_laws.ensures in
    let free = free_then old c.args.extents.now.blocks (take i ts) t inv.size inv.only (All-get_or (λ u. extent_end u ≤ c.args.extents.now.blocks) ts i d lt c.requires.inside) (apart_before ts i d lt c.requires.apart) in
    let is : new ≡ handed_out e old = given_then old new c.in_ok-claim.field-0 e (rw (sym c.extent_blocks.ensures) c.in_ok-claim.ensures.claimed) c.in_ok-claim.ensures.held free in
    record {
      size = ap (λ (a : Area). a.blocks) is ∙ inv.size;
      each = subst (λ (a : Area). All (λ u. Contains a.held (record_extent u)) (take (i + 1) ts)) (sym is)
          (All-more (λ u. Contains (handed_out e old).held (record_extent u)) ts i d lt (All-weaker (λ u. Contains old.held (record_extent u)) (λ u. Contains (handed_out e old).held (record_extent u)) (λ u h. laws.others e (record_extent u) old h) (take i ts) inv.each) (laws.among e old));
      only = λ k. ap (λ (a : Area). is_held a.held k) is ∙ laws.blocks e old k ∙ ap (λ (b : Bool). covers k e || b) (inv.only k)
          ∙ or_swap (covers k e) (list_any (λ u. covers k (record_extent u)) (take i ts)) ∙ sym (list_any_more (λ u. covers k (record_extent u)) ts i d lt);
    }

pub returns-clause-held : goal.returns-clause-held
returns-clause-held g c =
    let inv = c.loop-table.invariant in
    let ts = c.args.tables.now in
    let all : take c.loop-table.table-index ts ≡ ts = take_all c.loop-table.table-index ts (omega (arith, c.loop-table-test.false)) in
    record {
      size = inv.size;
      each = subst (λ (l : List TableRecord). All (λ t. Contains c.loop-table.extents.held (record_extent t)) l) all inv.each;
      only = λ k. inv.only k ∙ ap (list_any (λ t. covers k (record_extent t))) all;
    }
