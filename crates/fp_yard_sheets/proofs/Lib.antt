mod OrderedArrivals
mod FreightRows
mod PlanYards
