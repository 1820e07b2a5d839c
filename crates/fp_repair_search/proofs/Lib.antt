mod LegsWithin
