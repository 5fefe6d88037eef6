mod MayLeave
mod MaskLists
mod ListedRows
mod Explorations
mod PlainRows
mod CountedBatches
mod PlainMaps
mod Generations
